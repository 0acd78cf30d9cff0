use Rattle.std.proofs.Common.{◌≡◌, [], ◌∷◌, ◌++◌, take, drop, sym, ap, ◌∙◌, arith}
use Rattle.std.proofs.lemmas.List.{take_more, take_all}
use Rattle.pipe_nodes.specs.Prefix.{PrefixSeen, prefix}
use Rattle.stage_run.specs.Asked.{prefixes}
use Rattle.stage_run.proofs.AskedLemmas.{asked-more, length-prefixes, length-behind}
use Rattle.stage_run.proofs.gathering.stages_asked.Goals as goal

pub loop-i-preserved : goal.loop-i-preserved
loop-i-preserved c =
    let a = c.index-pieces-i.result in
    let r = c.index-regions-i.result in
    let level = c.args.level in
    let actives = c.args.pieces.now in
    let i = c.loop-i.i in
    let last : c.in_ok-prefix-2.prefix ≡ prefix level (take i actives ++ a ∷ []) =
    c.in_ok-prefix-2.ensures ∙ ap (λ (p : PrefixSeen). prefix p.level (p.actives ++ c.active.result.now ∷ [])) c.loop-i.invariant.last ∙ ap (λ x. prefix level (take i actives ++ x ∷ [])) c.active.ensures.active in
    record {
      list = c.in_ok-push.ensures.items ∙ ap (λ l. l ++ (c.in_ok-share.field-0, r) ∷ []) c.loop-i.invariant.list
          ∙ sym (asked-more level actives c.args.regions.now i a r c.in_ok-share.field-0 c.loop-i-test.true c.requires.count c.index-pieces-i.is c.index-regions-i.is (c.in_ok-share.ensures ∙ last));
      last = last ∙ ap (prefix level) (sym (take_more actives i a c.loop-i-test.true ∙ ap (λ x. take i actives ++ x ∷ []) (sym c.index-pieces-i.is)));
    }

pub returns : goal.returns
returns c =
    let all = prefixes c.args.level [] c.args.pieces.now (drop 1 c.args.regions.now) in
    let long = length-prefixes c.args.level [] c.args.pieces.now (drop 1 c.args.regions.now) (length-behind c.args.regions.now _ c.requires.count) in
    c.loop-i.invariant.list ∙ take_all c.loop-i.i all (omega (arith, long))
