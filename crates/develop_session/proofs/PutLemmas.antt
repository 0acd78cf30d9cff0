-- what comes of puts that failed
use Rattle.std.proofs.Common.{ℕ, List, Option}
use Rattle.outside.specs.Faults.{NoneFalls}
use Rattle.outside.specs.Shelf.{Files}
use Rattle.publish.specs.declared.put_end.PutEnd.{PutEnd}
use Rattle.publish.specs.Files.{Put, RoseAt, AreCutShort}
use Rattle.publish.proofs.PutLemmas.{put_fails_since}

-- a rise of a count since a later time is one since an earlier time
pub cut_since : (ps : List Put) (early late now : List ℕ → ℕ) (old new : Option Files) (why : PutEnd) → NoneFalls early late → AreCutShort ps (RoseAt late now) old new why
    → AreCutShort ps (RoseAt early now) old new why
cut_since ps early late now old new why falls cut = record {
  done = cut.done;
  next = cut.next;
  stands = cut.stands;
  between = cut.between;
  front = cut.front;
  fails = put_fails_since cut.next early late now cut.between new why falls cut.fails;
}
