use Rattle.std.proofs.Common.{take, map}
use Rattle.outside.specs.Faults.{NoneFalls}
use Rattle.publish.specs.Files.{ArePut, frame_put}
use Rattle.publish.proofs.putting.put_frames.Given as goal

abbrev pub invariant-loop-frame : goal.invariant-loop-frame
invariant-loop-frame g l = record {
  front : ArePut (map (frame_put l.script) (take l.frame-index l.frames)) (g.S.Shelf.files l.fn.shelf) (g.S.Shelf.files l.shelf);
  reads : NoneFalls (g.S.Shelf.read_faults l.fn.shelf) (g.S.Shelf.read_faults l.shelf);
  puts : NoneFalls (g.S.Shelf.put_faults l.fn.shelf) (g.S.Shelf.put_faults l.shelf);
}
