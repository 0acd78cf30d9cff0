use Rattle.std.proofs.Common.{◌+◌, ◌-◌, ◌≤◌, length, take, refl, ap, arith}
use Rattle.std.proofs.lemmas.List.{length_push, length-take, length-take-le}
use Rattle.history.proofs.HistoryLemmas.{IsHistory-put, Stands-copy}
use Rattle.history.proofs.stack.History.set.Goals as goal

pub invariant_of-self-then-overwrites : goal.invariant_of-self-then-overwrites
invariant_of-self-then-overwrites c =
    let h = c.self.inside in
    let item = c.args.item.now in
    let stands = Stands-copy c.args.self.now h.order c.args.item.now item (ap (λ seen. seen.order) c.self.view_is) refl c.requires in
    let below = c.if-overwrites.ensures.some refl in
    let within : h.end - 1 ≤ length h.items.items = omega (arith, c.self.invariant.end) in
    IsHistory-put h.items.items c.put_on.new.list.items h.end (h.end - 1) h.end h.order item c.self.invariant stands c.in_ok-put_on.ensures.items
    (omega (arith, ap length c.in_ok-put_on.ensures.items, length_push (take (h.end - 1) h.items.items) item, length-take-le (h.end - 1) h.items.items within, length-take h.end c.deref.result.now))

pub invariant_of-self-2 : goal.invariant_of-self-2
invariant_of-self-2 c =
    let h = c.self.inside in
    let item = c.args.item.now in
    let stands = Stands-copy c.args.self.now h.order c.args.item.now item (ap (λ seen. seen.order) c.self.view_is) refl c.requires in
    IsHistory-put h.items.items c.put_on-2.new.list.items h.end h.end (h.end + 1) h.order item c.self.invariant stands c.in_ok-put_on-2.ensures.items
    (omega (arith, ap length c.in_ok-put_on-2.ensures.items, length_push (take h.end h.items.items) item, length-take-le h.end h.items.items c.self.invariant.end))
