use Rattle.std.proofs.Common.{◌≡◌, Some, sym, ap, ◌∙◌, subst, ◌⊎◌}
use Rattle.pnm.specs.declared.fault.PnmFault.{PnmFault}
use Rattle.pnm.proofs.FaultLemmas.{magic_bad, magic_none, magic_other, other_of, read_of, tests_of}
use Rattle.pnm.proofs.HeaderLemmas.{long_enough, read_parts}
use Rattle.pnm.proofs.header.magic_of.Goals as goal

pub returns-then-is_other : goal.returns-then-is_other
returns-then-is_other c =
    magic_other c.args.bytes.now (tests_of other_of _ _ _ _ _ c.byte_or_zero-first.ensures c.byte_or_zero-second.ensures (sym c.is_other.ensures ∙ c.if-is_other.true))
    ∙ ap (λ (f : PnmFault). Some f) (sym c.fault_at.ensures)

pub returns-then-not-is_read : goal.returns-then-not-is_read
returns-then-not-is_read c =
    magic_bad c.args.bytes.now (tests_of other_of _ _ _ _ _ c.byte_or_zero-first.ensures c.byte_or_zero-second.ensures (sym c.is_other.ensures ∙ c.if-is_other.false))
    (tests_of read_of _ _ _ _ _ c.byte_or_zero-first.ensures c.byte_or_zero-second.ensures (sym c.is_read.ensures ∙ c.if-not-is_read.true))
    ∙ ap (λ (f : PnmFault). Some f) (sym c.fault_at-then-not-is_read.ensures)

pub returns : goal.returns
returns c =
    let read = sym c.is_read.ensures ∙ c.if-not-is_read.false in
    let parts = read_parts c.byte_or_zero-first.result c.byte_or_zero-second.result read in
    record {
      none = magic_none c.args.bytes.now (tests_of other_of _ _ _ _ _ c.byte_or_zero-first.ensures c.byte_or_zero-second.ensures (sym c.is_other.ensures ∙ c.if-is_other.false))
          (tests_of read_of _ _ _ _ _ c.byte_or_zero-first.ensures c.byte_or_zero-second.ensures read);
      long = long_enough c.args.bytes.now (subst (λ m. (m ≡ 53) ⊎ (m ≡ 54)) c.byte_or_zero-second.ensures parts.1);
      first = sym c.byte_or_zero-first.ensures ∙ parts.0;
      second = parts.1;
      is = c.byte_or_zero-second.ensures;
    }
