-- puts one after the other
use Rattle.std.proofs.Common.{◌≡◌, ℕ, zero, suc, ◌+◌, ◌<◌, ◌≤◌, List, [], ◌∷◌, ◌++◌, length, take, map, get_or, Option, Some, None, refl, sym, ap, subst, ◌∙◌, arith}
use Rattle.std.specs.Prelude.{slice_get, option_map}
use Rattle.std.proofs.Common.{take_all}
use Rattle.std.proofs.Math.Seq.{take-append_seam}
use Rattle.std.proofs.lemmas.List.{take_more, take-map, take-append-le}
use Rattle.std.proofs.lemmas.Option.{slice_get-map, slice_get_read, slice_get_within}
use Rattle.std.specs.List.{All}
use Rattle.std.proofs.lemmas.List.Elements.{All-same, All-map}
use Rattle.outside.specs.Faults.{NoneFalls}
use Rattle.outside.specs.Shelf.{Files, with_file, with_files, Puts}
use Rattle.outside.proofs.FaultLaws.{Rose-wider}
use Rattle.outside.proofs.ShelfLaws.{with_files-append}
use Rattle.dev_core.specs.Jobs.{FrameSeen}
use Rattle.dev_core.specs.DeskState.{DeskSeen}
use Rattle.edit_steps.specs.Script.{Recipe}
use Rattle.journal.specs.declared.entry.Entry.{Entry}
use Rattle.journal.specs.Desk.{Legal}
use Rattle.journal.specs.Lines.{Line, lines}
use Rattle.dev_core.specs.Lines.{line_frame, frames_of}
use Rattle.dev_core.specs.Subject.{SubjectSeen}
use Rattle.publish.specs.declared.put_end.PutEnd.{PutEnd}
use Rattle.publish.specs.declared.put_end.PutEnd.TheVariants.{Fault, Memory}
use Rattle.publish.specs.Names.{HasJob, HasDone}
use Rattle.publish.proofs.LineLemmas.{legal_jobs, legal_done}
use Rattle.publish.specs.Files.{Put, ArePut, AreCutShort, PutFails, RoseAt, frame_put, put_of, manifest_put, desk_files}

-- the put of a line's frame is the line's
pub frames_put : (s : SubjectSeen) (ls : List Line) → map (frame_put s.script) (map (line_frame s) ls) ≡ map (put_of s) ls
frames_put s [] = refl
frames_put s (l ∷ ls) = ap (λ ps. put_of s l ∷ ps) (frames_put s ls)

none_put : (old : Option Files) → ArePut [] old old
none_put None = refl
none_put (Some fs) = refl

more_put : (ps : List Put) (p : Put) (old : Option Files) → option_map (with_file p.0 p.1) (option_map (with_files ps) old) ≡ option_map (with_files (ps ++ p ∷ [])) old
more_put ps p None = refl
more_put ps p (Some fs) = ap Some (sym (with_files-append ps (p ∷ []) fs))

-- one put more
pub put_further : (ps : List Put) (p : Put) (old between new : Option Files) → ArePut ps old between → Puts p.0 p.1 between new → ArePut (ps ++ p ∷ []) old new
put_further ps p old between new front one = one ∙ ap (option_map (with_file p.0 p.1)) front ∙ more_put ps p old

-- a rise of a count since a later time is one since an earlier time
pub put_fails_since : (p : Put) (early late now : List ℕ → ℕ) (old new : Option Files) (why : PutEnd) → NoneFalls early late
    → PutFails p (RoseAt late now) old new why → PutFails p (RoseAt early now) old new why
put_fails_since p early late now old new (Fault name) falls fails = (fails.0, Rose-wider (early name) (late name) (now name) (now name) (falls name) fails.1 (omega arith), fails.2)
put_fails_since p early late now old new Memory falls fails = fails

past_front : (ps qs : List Put) (i : ℕ) (p : Put) → slice_get ps i ≡ Some p → slice_get (ps ++ qs) i ≡ Some p
past_front [] qs i p h = absurd cc
past_front (x ∷ ps) qs zero p h = h
past_front (x ∷ ps) qs (suc i) p h = past_front ps qs i p h

at_seam : (ps : List Put) (p : Put) → slice_get (ps ++ p ∷ []) (length ps) ≡ Some p
at_seam [] p = refl
at_seam (x ∷ ps) p = at_seam ps p

-- puts that were cut short are so where more were to follow
pub cut_before : (ps : List Put) (q : Put) (rose : List ℕ → Type 0) (old new : Option Files) (why : PutEnd) → AreCutShort ps rose old new why → AreCutShort (ps ++ q ∷ []) rose old new why
cut_before ps q rose old new why cut = record {
  done = cut.done;
  next = cut.next;
  stands = past_front ps (q ∷ []) cut.done cut.next cut.stands;
  between = cut.between;
  front = cut.front ∙ ap (λ xs. option_map (with_files xs) old) (sym (take-append-le cut.done ps (q ∷ []) (omega (arith, slice_get_within ps cut.done cut.next cut.stands))));
  fails = cut.fails;
}

-- all were made but the last, which failed
pub cut_at_last : (ps : List Put) (q : Put) (rose : List ℕ → Type 0) (old between new : Option Files) (why : PutEnd) → ArePut ps old between → PutFails q rose between new why
    → AreCutShort (ps ++ q ∷ []) rose old new why
cut_at_last ps q rose old between new why front fails = record {
  done = length ps;
  next = q;
  stands = at_seam ps q;
  between = between;
  front = front ∙ ap (λ xs. option_map (with_files xs) old) (sym (take-append_seam ps (q ∷ [])));
  fails = fails;
}

-- ---- frames in turn

pub frames_from_start : (script : Recipe) (fs : List FrameSeen) (old : Option Files) → ArePut (map (frame_put script) (take 0 fs)) old old
frames_from_start script [] old = none_put old
frames_from_start script (f ∷ fs) old = none_put old

pub frames_further : (script : Recipe) (fs : List FrameSeen) (i : ℕ) (f : FrameSeen) (old between new : Option Files) → i < length fs → f ≡ get_or fs i f → ArePut (map (frame_put script) (take i fs)) old between
    → Puts (frame_put script f).0 (frame_put script f).1 between new → ArePut (map (frame_put script) (take (i + 1) fs)) old new
frames_further script fs i f old between new within is front one =
    let more : take (i + 1) fs ≡ take i fs ++ f ∷ [] = take_more fs i f within ∙ ap (λ x. take i fs ++ x ∷ []) (sym is) in
    put_further (map (frame_put script) (take i fs)) (frame_put script f) old between new front one ∙ ap (λ xs. option_map (with_files xs) old) (sym (ap (map (frame_put script)) more ∙ mapped (take i fs) f))
  where
    mapped : (xs : List FrameSeen) (g : FrameSeen) → map (frame_put script) (xs ++ g ∷ []) ≡ map (frame_put script) xs ++ frame_put script g ∷ []
    mapped [] g = refl
    mapped (x ∷ xs) g = ap (λ ys. frame_put script x ∷ ys) (mapped xs g)

pub frames_cut : (script : Recipe) (fs : List FrameSeen) (i : ℕ) (f : FrameSeen) (early late now : List ℕ → ℕ) (old between new : Option Files) (why : PutEnd) → i < length fs → f ≡ get_or fs i f → NoneFalls early late
    → ArePut (map (frame_put script) (take i fs)) old between → PutFails (frame_put script f) (RoseAt late now) between new why
    → AreCutShort (map (frame_put script) fs) (RoseAt early now) old new why
frames_cut script fs i f early late now old between new why within is falls front fails = record {
  done = i;
  next = frame_put script f;
  stands = slice_get-map (frame_put script) fs i ∙ ap (option_map (frame_put script)) (slice_get_read fs (length fs) i f refl within is);
  between = between;
  front = front ∙ ap (λ xs. option_map (with_files xs) old) (sym (take-map (frame_put script) i fs));
  fails = put_fails_since (frame_put script f) early late now between new why falls fails;
}

pub frames_done : (script : Recipe) (fs : List FrameSeen) (i : ℕ) (old new : Option Files) → length fs ≤ i → ArePut (map (frame_put script) (take i fs)) old new → ArePut (map (frame_put script) fs) old new
frames_done script fs i old new past front = front ∙ ap (λ xs. option_map (with_files (map (frame_put script) xs)) old) (take_all i fs past)

-- ---- the files of a desk

-- the script, the journal and the frames are a desk's
pub record AreOf (d : DeskSeen) (script : Recipe) (es : List Entry) (fs : List FrameSeen) : Type 0 where
  pub script_is : script ≡ d.subject.script
  pub journal_is : es ≡ d.journal
  pub frames_are : fs ≡ frames_of d.subject d.journal

-- as a desk's calls tell it
pub are_of : (d : DeskSeen) (script : Recipe) (es : List Entry) (fs : List FrameSeen) (s t : SubjectSeen) → script ≡ s.script → s ≡ t → t ≡ d.subject → es ≡ d.journal
    → fs ≡ frames_of d.subject d.journal → AreOf d script es fs
are_of d script es fs s t of_script same of_desk journal_is frames_are =
    record { script_is = of_script ∙ ap (λ (x : SubjectSeen). x.script) (same ∙ of_desk); journal_is = journal_is; frames_are = frames_are }

-- the puts of frames and of a manifest
abbrev puts_of : Recipe → List Entry → List FrameSeen → List Put
puts_of script es fs = map (frame_put script) fs ++ manifest_put script es ∷ []

desk_puts : (d : DeskSeen) (script : Recipe) (es : List Entry) (fs : List FrameSeen) → AreOf d script es fs → puts_of script es fs ≡ desk_files d
desk_puts d script es fs are =
    ap (λ x. puts_of x es fs) are.script_is ∙ ap (λ x. puts_of d.subject.script x fs) are.journal_is ∙ ap (λ x. puts_of d.subject.script d.journal x) are.frames_are
    ∙ ap (λ ps. ps ++ manifest_put d.subject.script d.journal ∷ []) (frames_put d.subject (lines d.subject.script d.journal))

pub desk_put : (d : DeskSeen) (script : Recipe) (es : List Entry) (fs : List FrameSeen) (old between new : Option Files) → AreOf d script es fs
    → ArePut (map (frame_put script) fs) old between → Puts (manifest_put script es).0 (manifest_put script es).1 between new → ArePut (desk_files d) old new
desk_put d script es fs old between new are front last =
    subst (λ ps. ArePut ps old new) (desk_puts d script es fs are) (put_further (map (frame_put script) fs) (manifest_put script es) old between new front last)

pub desk_cut : (d : DeskSeen) (script : Recipe) (es : List Entry) (fs : List FrameSeen) (rose : List ℕ → Type 0) (old new : Option Files) (why : PutEnd) → AreOf d script es fs
    → AreCutShort (map (frame_put script) fs) rose old new why → AreCutShort (desk_files d) rose old new why
desk_cut d script es fs rose old new why are cut =
    subst (λ ps. AreCutShort ps rose old new why) (desk_puts d script es fs are) (cut_before (map (frame_put script) fs) (manifest_put script es) rose old new why cut)

pub desk_cut_at_last : (d : DeskSeen) (script : Recipe) (es : List Entry) (fs : List FrameSeen) (early late now : List ℕ → ℕ) (old between new : Option Files) (why : PutEnd)
    → AreOf d script es fs → NoneFalls early late → ArePut (map (frame_put script) fs) old between → PutFails (manifest_put script es) (RoseAt late now) between new why
    → AreCutShort (desk_files d) (RoseAt early now) old new why
desk_cut_at_last d script es fs early late now old between new why are falls front fails =
    subst (λ ps. AreCutShort ps (RoseAt early now) old new why) (desk_puts d script es fs are)
    (cut_at_last (map (frame_put script) fs) (manifest_put script es) (RoseAt early now) old between new why front
    (put_fails_since (manifest_put script es) early late now between new why falls fails))

-- ---- the tickets of a desk are the script's

pub desk_jobs : (d : DeskSeen) (script : Recipe) (es : List Entry) (fs : List FrameSeen) → AreOf d script es fs → Legal d.subject.script d.journal → All (λ (f : FrameSeen). HasJob script f.name) fs
desk_jobs d script es fs are legal =
    subst (λ r. All (λ (f : FrameSeen). HasJob r f.name) fs) (sym are.script_is)
    (All-same (λ (f : FrameSeen). HasJob d.subject.script f.name) fs (frames_of d.subject d.journal) are.frames_are
    (All-map (λ (f : FrameSeen). HasJob d.subject.script f.name) (line_frame d.subject) (lines d.subject.script d.journal) (legal_jobs d.subject.script d.journal legal)))

pub desk_done : (d : DeskSeen) (script : Recipe) (es : List Entry) (fs : List FrameSeen) → AreOf d script es fs → Legal d.subject.script d.journal → All (HasDone script) es
desk_done d script es fs are legal =
    subst (λ r. All (HasDone r) es) (sym are.script_is) (subst (All (HasDone d.subject.script)) (sym are.journal_is) (legal_done d.subject.script d.journal legal))
