use Rattle.std.proofs.Common.{◌≡◌, ◌++◌, ◌∷◌, [], Some, sym, ap, subst, ◌∙◌, length}
use Rattle.std.specs.Prelude.{option_map}
use Rattle.mip_cache.specs.declared.entry.Held.TheVariants.{Writing}
use Rattle.level_store.specs.declared.holds.HoldPass.TheVariants.{Write, Read}
use Rattle.level_store.specs.declared.hold.Hold.TheVariants.{Writes, Reads}
use Rattle.level_store.specs.Passes.{hold_by, IsOwn}
use Rattle.level_store.specs.Agreement.{Agree}
use Rattle.level_store.proofs.AgreeLemmas.{last_hold, agree_popped, agree_front, agree_abandoned, agree_left}
use Rattle.level_store.proofs.levels.give_up_all.Goals as goal

pub loop-seat-preserved-in-None : goal.loop-seat-preserved-in-None
loop-seat-preserved-in-None c =
    let front = c.pop.new.self in
    agree_front c.loop-seat.mips.entries front
    (subst (Agree c.loop-seat.mips.entries) (c.in-Some.ensures.last ∙ ap (λ seat. front ++ option_map hold_by seat ∷ []) c.in-None.is) c.loop-seat.invariant)

pub abandon-requires : goal.abandon-requires
abandon-requires c =
    let front = c.pop.new.self in
    let pass = c.in-Some-Write.pass in
    let seat : c.in-Some.seat ≡ Some (Write pass) = cc in
    let held = last_hold c.loop-seat.holds front (Some (Writes pass.level)) (c.in-Some.ensures.last ∙ ap (λ s. front ++ option_map hold_by s ∷ []) seat) in
    let own : pass.worker ≡ length front = subst (IsOwn (length front)) seat c.in-Some.ensures.own in
    (c.loop-seat.invariant.each pass.level).writes (length front) held ∙ ap (λ w. Some (Writing w)) (sym own)

pub loop-seat-preserved-in-Some-Write : goal.loop-seat-preserved-in-Some-Write
loop-seat-preserved-in-Some-Write c =
    let front = c.pop.new.self in
    let pass = c.in-Some-Write.pass in
    let seat : c.in-Some.seat ≡ Some (Write pass) = cc in
    let last = c.in-Some.ensures.last ∙ ap (λ s. front ++ option_map hold_by s ∷ []) seat in
    agree_popped c.abandon.new.self.entries c.loop-seat.holds front (Some (Writes pass.level)) last
    (agree_abandoned c.loop-seat.mips.entries c.abandon.new.self.entries c.loop-seat.holds (length front) pass.level c.loop-seat.invariant
    (last_hold c.loop-seat.holds front (Some (Writes pass.level)) last) c.abandon.ensures.held c.abandon.ensures.others)

pub loop-seat-preserved : goal.loop-seat-preserved
loop-seat-preserved c =
    let front = c.pop.new.self in
    let pass = c.in-Some-Read.pass in
    let seat : c.in-Some.seat ≡ Some (Read pass) = cc in
    let last = c.in-Some.ensures.last ∙ ap (λ s. front ++ option_map hold_by s ∷ []) seat in
    agree_popped c.leave.new.self.entries c.loop-seat.holds front (Some (Reads pass.level)) last
    (agree_left c.loop-seat.mips.entries c.leave.new.self.entries c.loop-seat.holds (length front) pass.level c.loop-seat.invariant
    (last_hold c.loop-seat.holds front (Some (Reads pass.level)) last) c.leave.ensures.held c.leave.ensures.others)
