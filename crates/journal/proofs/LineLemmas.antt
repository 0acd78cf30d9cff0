-- lists of lines with one line more
use Rattle.std.proofs.Common.{◌≡◌, ◌≢◌, ℕ, ◌+◌, ◌<◌, ◌≤◌, Bool, true, false, ◌&&◌, cond, List, [], ◌∷◌, ◌++◌, length, map, get_or, refl, sym, ap, subst, ◌∙◌, arith, Option, Some, None, eqb, eq-eqb, ⊎_elim}
use Rattle.std.specs.Prelude.{nat_le, IfSome}
use Rattle.std.specs.List.{All, filter, take_while, last_or}
use Rattle.std.proofs.lemmas.Bool.{cases_Bool, leb-true, le-leb}
use Rattle.std.proofs.lemmas.Bool.Decides.{eqb_tells}
use Rattle.std.proofs.lemmas.List.{map-append}
use Rattle.std.proofs.lemmas.List.Elements.{All-nil, All-cons, All-head, All-tail, filter-append}
use Rattle.std.proofs.lemmas.List.Sums.{take_while-cons, sum_by-append}
use Rattle.outside.specs.declared.job_name.JobName.{JobName}
use Rattle.outside.specs.declared.job_name.JobName.TheVariants as job
use Rattle.outside.specs.declared.job_name.Pipe.{Pipe}
use Rattle.edit_steps.specs.Script.{Recipe}
use Rattle.journal.specs.Pipes.{place_of}
use Rattle.journal.specs.Lines.{Line, pipe_line}
use Rattle.journal.specs.Good.{is_pipe, is_ticket, moments, last_moment, ticket_lines, Differ, IsAfter, Rises, is_ticket_upto, is_within, front}
use Rattle.journal.proofs.SlotLemmas.{place-same}

-- ---- tests

pub is_pipe-same : (p q : Pipe) → q ≡ p → is_pipe p (job.Pipe q) ≡ true
is_pipe-same p q e = eq-eqb (place_of q) (place_of p) (ap place_of e)

pub is_pipe-other : (p q : Pipe) → (q ≡ p → ⊥) → is_pipe p (job.Pipe q) ≡ false
is_pipe-other p q differ =
    ⊎_elim (λ (h : (eqb (place_of q) (place_of p) ≡ true) × (place_of q ≡ place_of p)). absurd (differ (place-same q p h.1)))
    (λ (h : (eqb (place_of q) (place_of p) ≡ false) × (place_of q ≢ place_of p)). h.0) (eqb_tells (place_of q) (place_of p))

pub is_ticket-same : (t u : ℕ) → u ≡ t → is_ticket t (job.Ticket u) ≡ true
is_ticket-same t u e = eq-eqb u t e

pub is_ticket-other : (t u : ℕ) → (u ≡ t → ⊥) → is_ticket t (job.Ticket u) ≡ false
is_ticket-other t u differ =
    ⊎_elim (λ (h : (eqb u t ≡ true) × (u ≡ t)). absurd (differ h.1)) (λ (h : (eqb u t ≡ false) × (u ≢ t)). h.0) (eqb_tells u t)

-- ---- moments

map_one : (l : Line) (b : Bool) → map (λ (x : Line). x.moment) (cond {A = List Line} b (l ∷ []) []) ≡ cond {A = List ℕ} b (l.moment ∷ []) []
map_one l true = refl
map_one l false = refl

pub moments-push : (p : Pipe) (ls : List Line) (l : Line) → moments p (ls ++ l ∷ []) ≡ moments p ls ++ cond {A = List ℕ} (is_pipe p l.job) (l.moment ∷ []) []
moments-push p ls l =
    let test = λ (x : Line). is_pipe p x.job in
    ap (map (λ (x : Line). x.moment)) (filter-append test ls (l ∷ [])) ∙ map-append (λ (x : Line). x.moment) (filter test ls) (filter test (l ∷ []))
    ∙ ap (λ ms. moments p ls ++ ms) (map_one l (is_pipe p l.job))

pub last_or-push : (before : Option ℕ) (ms : List ℕ) (m : ℕ) → last_or before (ms ++ m ∷ []) ≡ Some m
last_or-push before [] m = refl
last_or-push before (x ∷ ms) m = last_or-push (Some x) ms m

pub Rises-push : (script : Recipe) (p : Pipe) (before : Option ℕ) (ms : List ℕ) (m : ℕ) → Rises script p before ms
    → IsAfter script p (last_or before ms) m → Rises script p before (ms ++ m ∷ [])
Rises-push script p before [] m rises after = (after, tt)
Rises-push script p before (x ∷ ms) m rises after = (rises.0, Rises-push script p (Some x) ms m rises.1 after)

-- ---- the count of a ticket's lines

pub ticket_lines-push : (t : ℕ) (ls : List Line) (l : Line) → ticket_lines t (ls ++ l ∷ []) ≡ ticket_lines t ls + cond (is_ticket t l.job) 1 0
ticket_lines-push t ls l =
    sum_by-append (λ (x : Line). cond (is_ticket t x.job) 1 0) ls (l ∷ []) ∙ ap (λ k. ticket_lines t ls + k) (plus_none (cond (is_ticket t l.job) 1 0))
  where
    plus_none : (k : ℕ) → 0 + k ≡ k
    plus_none k = omega arith

-- ---- names

below_before : (script : Recipe) (p : Pipe) (before : Option ℕ) (x m : ℕ) → IsAfter script p before x → x ≤ m → IfSome before (λ b. b < m)
below_before script p None x m after less = tt
below_before script p (Some b) x m after less = omega (arith, after.0)

record AreBelow (before : Option ℕ) (ms : List ℕ) (m : ℕ) : Type 0 where
  start : IfSome before (λ b. b < m)
  all : All (λ x. x < m) ms

-- a moment after the last of rising ones is above all of them
rising_below : (script : Recipe) (p : Pipe) (before : Option ℕ) (ms : List ℕ) (m : ℕ) → Rises script p before ms
    → IsAfter script p (last_or before ms) m → AreBelow before ms m
rising_below script p before [] m rises after = record { start = below_before script p before m m after (omega arith); all = All-nil _ }
rising_below script p before (x ∷ ms) m rises after =
    let r = rising_below script p (Some x) ms m rises.1 after in
    record { start = below_before script p before x m rises.0 (omega (arith, r.start)); all = All-cons (λ y. y < m) x ms r.start r.all }

-- what holds of a pipe's moments holds of its lines
abbrev OfPipe : Pipe → (ℕ → Type 0) → Line → Type 0
OfPipe p P l = l.job ≡ job.Pipe p → P l.moment

all_of_pipe : (p : Pipe) (P : ℕ → Type 0) (ls : List Line) → All P (moments p ls) → All (OfPipe p P) ls
all_of_pipe p P [] all = All-nil _
all_of_pipe p P (l ∷ ls) all =
    let of_rest = filter (λ (x : Line). is_pipe p x.job) ls in
    let Moments : Bool → List ℕ = λ b. map (λ (x : Line). x.moment) (cond {A = List Line} b (l ∷ of_rest) of_rest) in
    ⊎_elim
    (λ (yes : is_pipe p l.job ≡ true).
    let here : All P (l.moment ∷ moments p ls) = subst (λ b. All P (Moments b)) yes all in
    All-cons (OfPipe p P) l ls (λ _. All-head P l.moment (moments p ls) here) (all_of_pipe p P ls (All-tail P l.moment (moments p ls) here)))
    (λ (no_line : is_pipe p l.job ≡ false).
    let rest : All P (moments p ls) = subst (λ b. All P (Moments b)) no_line all in
    All-cons (OfPipe p P) l ls (λ is. absurd (true_false (sym (ap (is_pipe p) is ∙ is_pipe-same p p refl) ∙ no_line))) (all_of_pipe p P ls rest))
    (cases_Bool (is_pipe p l.job))
  where
    true_false : true ≡ false → ⊥
    true_false e = cc

differ_pipe : (p : Pipe) (m : ℕ) (l : Line) → (l.job ≡ job.Pipe p → l.moment < m) → Differ l (pipe_line p m)
differ_pipe p m l below = by_name l.job l.moment below
  where
    by_name : (name : JobName) (n : ℕ) → (name ≡ job.Pipe p → n < m) → Differ (record { job = name; moment = n }) (pipe_line p m)
    by_name (job.Pipe q) n less = λ same e. let l : n < m = less (sym same) in omega (arith, e, l)
    by_name (job.Ticket t) n less = λ (same : job.Pipe p ≡ job.Ticket t). cc

differ_ticket : (t m : ℕ) (l : Line) → (l.job ≡ job.Ticket t → ⊥) → Differ l (record { job = job.Ticket t; moment = m })
differ_ticket t m l not_this = by_name l.job l.moment not_this
  where
    by_name : (name : JobName) (n : ℕ) → (name ≡ job.Ticket t → ⊥) → Differ (record { job = name; moment = n }) (record { job = job.Ticket t; moment = m })
    by_name (job.Pipe q) n differ = λ (same : job.Ticket t ≡ job.Pipe q). cc
    by_name (job.Ticket u) n differ = λ same. differ (sym same)

-- each line has another name than a line of the pipe that comes after the pipe's last
pub none_named_pipe : (script : Recipe) (p : Pipe) (ls : List Line) (m : ℕ) → Rises script p None (moments p ls) → IsAfter script p (last_moment p ls) m
    → (k : ℕ) (d : Line) → k < length ls → Differ (get_or ls k d) (pipe_line p m)
none_named_pipe script p ls m rises after k d within =
    let all = all_of_pipe p (λ n. n < m) ls (rising_below script p None (moments p ls) m rises after).all in
    differ_pipe p m (get_or ls k d) (all k d within)

abbrev Other : ℕ → Line → Type 0
Other t l = l.job ≡ job.Ticket t → ⊥

-- each line has another name than that of a ticket without a line
pub none_named_ticket : (t : ℕ) (ls : List Line) (m : ℕ) → ticket_lines t ls ≡ 0 → (k : ℕ) (d : Line) → k < length ls
    → Differ (get_or ls k d) (record { job = job.Ticket t; moment = m })
none_named_ticket t ls m count k d within = differ_ticket t m (get_or ls k d) (all_other t ls count k d within)
  where
    first_and_rest : (whole one rest : ℕ) → whole ≡ (0 + one) + rest → whole ≡ 0 → one + rest ≡ 0
    first_and_rest whole one rest e none = omega (arith, e, none)

    all_other : (t : ℕ) (ls : List Line) → ticket_lines t ls ≡ 0 → All (Other t) ls
    all_other t [] none_there = All-nil _
    all_other t (l ∷ ls) none_there =
        let sum : cond (is_ticket t l.job) 1 0 + ticket_lines t ls ≡ 0 =
        first_and_rest _ _ _ (sum_by-append (λ (x : Line). cond (is_ticket t x.job) 1 0) (l ∷ []) ls) none_there in
        All-cons (Other t) l ls
        (λ is. let one : cond {A = ℕ} (is_ticket t l.job) 1 0 ≡ 1 = ap (λ b. cond b 1 0) (ap (is_ticket t) is ∙ is_ticket-same t t refl) in omega (arith, sum, one))
        (all_other t ls (omega (arith, sum)))

-- ---- fronts

while_more : (test : Line → Bool) (l : Line) (ls : List Line) (b : Bool) → test l ≡ b
    → take_while test (l ∷ ls) ≡ cond {A = List Line} b (l ∷ take_while test ls) []
while_more test l ls b e = take_while-cons test l ls ∙ ap (λ x. cond {A = List Line} x (l ∷ take_while test ls) []) e

-- the front stays, where it wasn't all of the lines or the new line ends it
while_stays : (test : Line → Bool) (ls : List Line) (l : Line) → (take_while test ls ≡ ls → test l ≡ true → ⊥)
    → take_while test (ls ++ l ∷ []) ≡ take_while test ls
while_stays test [] l ended =
    ⊎_elim (λ (yes : test l ≡ true). absurd (ended refl yes)) (λ (fails : test l ≡ false). while_more test l [] false fails) (cases_Bool (test l))
while_stays test (x ∷ ls) l ended =
    ⊎_elim
    (λ (yes : test x ≡ true).
    while_more test x (ls ++ l ∷ []) true yes
    ∙ ap (λ xs. x ∷ xs) (while_stays test ls l (λ all passes. ended (while_more test x ls true yes ∙ ap (λ xs. x ∷ xs) all) passes))
    ∙ sym (while_more test x ls true yes))
    (λ (fails : test x ≡ false). while_more test x (ls ++ l ∷ []) false fails ∙ sym (while_more test x ls false fails))
    (cases_Bool (test x))

pub front_stays : (m most : ℕ) (ls : List Line) (l : Line) → (front m most ls ≡ ls → is_within m most l ≡ true → ⊥)
    → front m most (ls ++ l ∷ []) ≡ front m most ls
front_stays m most ls l ended = while_stays (is_within m most) ls l ended

pub front_all : (m most : ℕ) (ls : List Line) → All (λ l. is_within m most l ≡ true) ls → front m most ls ≡ ls
front_all m most [] all = refl
front_all m most (l ∷ ls) all =
    while_more (is_within m most) l ls true (All-head (λ x. is_within m most x ≡ true) l ls all)
    ∙ ap (λ xs. l ∷ xs) (front_all m most ls (All-tail (λ x. is_within m most x ≡ true) l ls all))

both : (a b : Bool) → a ≡ true → b ≡ true → (a && b) ≡ true
both a b x y = ap (λ c. c && b) x ∙ y

pub within_from : (m most : ℕ) (l : Line) → l.moment ≤ m → is_ticket_upto most l.job ≡ true → is_within m most l ≡ true
within_from m most l low upto = both (nat_le l.moment m) (is_ticket_upto most l.job) (le-leb l.moment m low) upto

pub upto_from : (most t : ℕ) → t ≤ most → is_ticket_upto most (job.Ticket t) ≡ true
upto_from most t low = le-leb t most low

first_of_both : (a b : Bool) → (a && b) ≡ true → a ≡ true
first_of_both true b e = refl
first_of_both false b e = cc

last_of_both : (a b : Bool) → (a && b) ≡ true → b ≡ true
last_of_both true b e = e
last_of_both false b e = cc

pub within_moment : (m most : ℕ) (l : Line) → is_within m most l ≡ true → l.moment ≤ m
within_moment m most l e = leb-true l.moment m (first_of_both _ _ e)

pub within_ticket : (m most t n : ℕ) → is_within m most (record { job = job.Ticket t; moment = n }) ≡ true → t ≤ most
within_ticket m most t n e = leb-true t most (last_of_both (nat_le n m) _ e)
