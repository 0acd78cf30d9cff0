use Rattle.std.proofs.Common.{◌≡◌, ap, ◌∙◌}
use Rattle.std.specs.Arc.{arc_value}
use Rattle.edit_steps.specs.Script.{Recipe}
use Rattle.dev_core.specs.Subject.{SubjectSeen}
use Rattle.stepped.proofs.StartLemmas.{starts_of, start_keeps, start_seen}
use Rattle.stepped.proofs.machine.Machine.start.Goals as goal

pub invariant_of-result : goal.invariant_of-result
invariant_of-result c =
    let subject = arc_value c.args.subject in
    let set : c.settings-settings.result.now ≡ subject.script.settings =
    c.settings-settings.ensures.value ∙ ap (λ (x : Recipe). x.settings) c.script.ensures ∙ ap (λ (s : SubjectSeen). s.script.settings) c.deref.ensures in
    let first : arc_value c.in_ok-source.source ≡ subject.source = c.in_ok-source.ensures ∙ c.source.ensures ∙ ap (λ (s : SubjectSeen). s.source) c.deref-2.ensures in
    let second : arc_value c.in_ok-source-2.source ≡ subject.source = c.in_ok-source-2.ensures ∙ c.source-2.ensures ∙ ap (λ (s : SubjectSeen). s.source) c.deref-3.ensures in
    start_keeps subject c.in_ok-desk.desk c.in_ok-runs.runs.items c.in_ok-cache.cache c.in_ok-levels.levels
    (starts_of subject c.in_ok-desk.desk c.in_ok-runs.runs.items c.in_ok-cache.cache c.in_ok-levels.levels c.settings-settings.result.now _ _ _ set first second c.from-pixels.ensures
    c.in_ok-desk.ensures c.in_ok-runs.ensures c.in_ok-cache.ensures c.in_ok-levels.ensures)

pub returns : goal.returns
returns c =
    let subject = arc_value c.args.subject in
    let set : c.settings-settings.result.now ≡ subject.script.settings =
    c.settings-settings.ensures.value ∙ ap (λ (x : Recipe). x.settings) c.script.ensures ∙ ap (λ (s : SubjectSeen). s.script.settings) c.deref.ensures in
    let first : arc_value c.in_ok-source.source ≡ subject.source = c.in_ok-source.ensures ∙ c.source.ensures ∙ ap (λ (s : SubjectSeen). s.source) c.deref-2.ensures in
    let second : arc_value c.in_ok-source-2.source ≡ subject.source = c.in_ok-source-2.ensures ∙ c.source-2.ensures ∙ ap (λ (s : SubjectSeen). s.source) c.deref-3.ensures in
    start_seen subject c.in_ok-desk.desk c.in_ok-runs.runs.items c.in_ok-cache.cache c.in_ok-levels.levels
    (starts_of subject c.in_ok-desk.desk c.in_ok-runs.runs.items c.in_ok-cache.cache c.in_ok-levels.levels c.settings-settings.result.now _ _ _ set first second c.from-pixels.ensures
    c.in_ok-desk.ensures c.in_ok-runs.ensures c.in_ok-cache.ensures c.in_ok-levels.ensures)
