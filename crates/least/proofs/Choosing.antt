-- The flows tried one after the other, and what is given of the set that is found. Assumes nothing.
use mathlib.Core.Path.{◌≡◌, refl, sym, ◌∙◌, ap, ap₂}
use Prim.Native.Nat.{ℕ, ◌+◌, ◌*◌, ◌≤◌, ◌<◌}
use native.Mathlib.Numerals.{add-one}
use native.Mathlib.Omega.{arith}
use mathlib.Core.Bool.{Bool, true, false, ◌&&◌}
use mathlib.Core.List.{List}
use lib.Dec.{ltb}
use lib.ListN.{length, get_or, take}
use Rattle.std.specs.Prelude.{Option, Some, None, MatchOption, Ok, Err}
use Rattle.std.specs.Prelude as std
use Rattle.std.specs.Option.{IsSome}
use Rattle.std.specs.Result.{IsOk}
use borrow.Author.Rules.{rules}
use lib.Seq.{take_at}
use borrow.Author.Tests.{lt-ltb, le-ltb, le-leb, lt-leb, eqb-true}
use Rattle.table.specs.declared.Answer.{Answer}
use Rattle.table.specs.declared.refusal.Refused.{Refused}
use Rattle.table.specs.declared.refusal.Refusal.TheVariants.{NoRoom, NotDiffering}
use Rattle.table.specs.Answers.{Result, good, refused, over, refusal, named, success, parts, answer, leaves}
use Rattle.table.specs.Rows.{Row, row_size, max_flows}
use Rattle.table.specs.Plain.{joined, table_of, rows_in, plain_answer}
use Rattle.table.proofs.Tests.{and_false, not_good}
use Rattle.table.proofs.Tables.{Table, table_made, rows_good}
use Rattle.table.proofs.AnswerLaws.{told_ok, told_err, refused_leaves}
use Rattle.reach.specs.Sets.{Flows, set_of, has}
use Rattle.reach.specs.Reach.{closure, sets_of, reaching, reach_answer, sets_after}
use Rattle.reach.proofs.SetBits.{set_has}
use Rattle.reach.proofs.SetLists.{sets_length, sets_entry}
use Rattle.reach.proofs.Closures.{reach_told}
use Rattle.least.specs.Parts.{below, part_count, part_rows, part_flows}
use Rattle.least.specs.Answers.{differing, drawn_count, drawn_differs, Best, better, best, least_flow, least_set, seeking, offering}
use Rattle.least.specs.Private.Steps.{part_differing, Chosen, Refusing, Giving}
use Rattle.least.proofs.SamePart.{count_same, rows_same, flows_same}
use Rattle.least.proofs.Numbers.{below_le}
use Rattle.least.proofs.PartTables.{words_count}
use Rattle.least.proofs.LeastParts.{is}
use Rattle.least.proofs.Given.{plan_refused}

-- the number x is the set s
module _ (n : ℕ) (words : List ℕ) (rows : List Row) (t : Table n words rows) (s : Flows) (x : ℕ) (is : x ≡ set_of s n) where
  same : (i : ℕ) → i < n → has x i ≡ s i
  same i l = ap (λ (y : ℕ). has y i) is ∙ set_has s n i t.few l

  pub set_count : below (has x) n ≡ part_count n s
  set_count = count_same (has x) s n same

  pub set_rows : part_rows n words (has x) ≡ part_rows n words s
  set_rows = rows_same n words rows t (has x) s same

  pub set_flows : part_flows n (has x) ≡ part_flows n s
  set_flows = flows_same (has x) s n same

-- ---- a flow tried

-- what is known of the value in an option
pub in_some : (P : Type 0) (Q R : ℕ → Type 0) (o : Option ℕ) → ((y : ℕ) → Q y → R y) → MatchOption o P Q → MatchOption o P R
in_some P Q R None h q = q
in_some P Q R (Some y) h q = h y q

-- a part's rows, from the first word on
pub part_rows_at : (n : ℕ) (words : List ℕ) (s : Flows) (c : ℕ) (old : List ℕ) → c ≡ below s n → take (row_size * c) (over (joined (part_rows n words s)) old) ≡ joined (part_rows n words s)
part_rows_at n words s c old e = take_at (joined (part_rows n words s)) _ (row_size * c) (words_count words s n ∙ ap (λ (i : ℕ). row_size * i) (sym e))

-- the closures, flow by flow
pub set_at : (n : ℕ) (words sets : List ℕ) (f : ℕ) → sets ≡ sets_of n words n → f < length sets → get_or sets f 0 ≡ set_of (closure n words f) n
set_at n words sets f e l = ap (λ (x : List ℕ). get_or x f 0) e ∙ sets_entry n words f (omega (arith, ap length e, sets_length n words n))

module _ (n : ℕ) (words : List ℕ) (rows : List Row) (t : Table n words rows) where
  -- the part has fewer flows than the best so far
  pub fewer : (f : ℕ) (o : Option ℕ) (c : ℕ) (r : Bool) → Chosen n words f o → c ≤ max_flows → MatchOption o (r ≡ true) (λ y. r ≡ ltb c (below (has y) n))
      → r ≡ ltb c (best n words f).count
  fewer f None c r h few e = e ∙ sym (lt-ltb c (best n words f).count (omega (arith, h)))
  fewer f (Some y) c r h few e = e ∙ ap (ltb c) (set_count n words rows t (closure n words (best n words f).flow) y h.0 ∙ sym h.1)

  -- a closure is taken, or is not smaller, or is not answered with 21
  module _ (f x : ℕ) (is : x ≡ set_of (closure n words f) n) (r : Bool) (test : r ≡ ltb (below (has x) n) (best n words f).count) where
    drawn : ltb (drawn_count n words f) (best n words f).count ≡ r
    drawn = ap (λ (i : ℕ). ltb i (best n words f).count) (sym (set_count n words rows t (closure n words f) x is)) ∙ sym test

    tried : drawn_differs n words f ≡ part_differing n words x
    tried =
        sym (ap₂ differing (set_count n words rows t (closure n words f) x is) (ap joined (set_rows n words rows t (closure n words f) x is)))

    pub taken : r ≡ true → part_differing n words x ≡ true → Chosen n words (f + 1) (Some x)
    unfolding best
    taken p q =
        let p' : ltb (drawn_count n words f) (best n words f).count ≡ true = drawn ∙ p in
        let q' : drawn_differs n words f ≡ true = tried ∙ q in
        rw (add-one f, p', q') (is, refl)

    module _ (o : Option ℕ) (h : Chosen n words f o) where
      pub not_fewer : r ≡ false → Chosen n words (f + 1) o
      unfolding best
      not_fewer e = let e' : ltb (drawn_count n words f) (best n words f).count ≡ false = drawn ∙ e in rw (add-one f, e') h

      pub not_differing_lem : part_differing n words x ≡ false → Chosen n words (f + 1) o
      unfolding best
      not_differing_lem e =
          let e' : (ltb (drawn_count n words f) (best n words f).count && drawn_differs n words f) ≡ false =
          ap (λ (d : Bool). ltb (drawn_count n words f) (best n words f).count && d) (tried ∙ e) ∙ and_false (ltb (drawn_count n words f) (best n words f).count) in
          rw (add-one f, e') h

-- against any best so far
module _ (n : ℕ) (words : List ℕ) (rows : List Row) (t : Table n words rows) (f x : ℕ) (is : x ≡ set_of (closure n words f) n)
    (b : Best) (c : ℕ) (count : c ≡ below (has x) n) where
  better_drawn : c ≡ drawn_count n words f
  better_drawn = count ∙ set_count n words rows t (closure n words f) x is

  pub better_kept : b.count ≤ c → b ≡ better n words f b
  better_kept l =
      let e : ltb (drawn_count n words f) b.count ≡ false = le-ltb (drawn_count n words f) b.count (omega (arith, better_drawn)) in
      rw e

  -- its part was laid down, and checked
  module _ (old new : List ℕ) (laid : new ≡ over (joined (part_rows n words (has x))) old) (d : Bool) (checked : d ≡ differing c (take (row_size * c) new)) where
    better_tried : d ≡ drawn_differs n words f
    better_tried =
        checked
        ∙ ap₂ differing better_drawn
        (ap (take (row_size * c)) laid ∙ part_rows_at n words (has x) c old count ∙ ap joined (set_rows n words rows t (closure n words f) x is))

    pub better_same : d ≡ false → b ≡ better n words f b
    better_same z =
        let e : (ltb (drawn_count n words f) b.count && drawn_differs n words f) ≡ false =
        ap (λ (y : Bool). ltb (drawn_count n words f) b.count && y) (sym better_tried ∙ z) ∙ and_false (ltb (drawn_count n words f) b.count) in
        rw e

    pub better_taken : c < b.count → d ≡ true → ◌≡◌ {A = Best} (record { flow = f; count = c }) (better n words f b)
    better_taken l z =
        let p : ltb (drawn_count n words f) b.count ≡ true = lt-ltb (drawn_count n words f) b.count (omega (arith, better_drawn)) in
        let q : drawn_differs n words f ≡ true = sym better_tried ∙ z in
        rw (p, q) (ap (λ (i : ℕ). let r : Best = record { flow = f; count = i } in r) better_drawn)

pub chosen_first : (n : ℕ) (words : List ℕ) → (best n words 0).count ≡ max_flows + 1
unfolding best
chosen_first n words = refl

-- the closures are given, and stand in the buffer that the call leaves
pub sets_given : (n : ℕ) (words old : List ℕ) (rows : List Row) (r : std.Result ℕ Refused) → table_of n words ≡ good rows → n ≤ length old → parts r ≡ reach_answer n words (length old) → IsOk r
sets_given n words old rows (Ok c) e l told = refl
sets_given n words old rows (Err x) e l told = not_good (sym (told_err length (reaching n words (length old)) x told).0 ∙ reach_told n words (length old) rows e l)

pub sets_found : (n : ℕ) (words old : List ℕ) (rows : List Row) → table_of n words ≡ good rows → n ≤ length old → take n (sets_after n words old) ≡ sets_of n words n
sets_found n words old rows e l = rw (reach_told n words (length old) rows e l) (take_at (sets_of n words n) _ n (sets_length n words n))

-- the flow that is chosen is one of the plan's
pub flow_in : (m : ℕ) (words : List ℕ) (rows : List Row) → table_of m words ≡ good rows → differing m words ≡ true → least_flow m words < m
flow_in m words rows e d =
    let g = plan_refused m words rows e (eqb-true _ _ d) in
    (is m words rows (table_made m words rows e) g.0 g.1).0

-- where the plan is answered with 21, one is chosen
pub chosen_there : (m : ℕ) (words : List ℕ) (rows : List Row) (o : Option ℕ) → table_of m words ≡ good rows → differing m words ≡ true → Chosen m words m o → IsSome o
chosen_there m words rows None e d h =
    let t = table_made m words rows e in
    let g = plan_refused m words rows e (eqb-true _ _ d) in
    absurd (omega (arith, h, (is m words rows t g.0 g.1).2, below_le (closure m words (least_flow m words)) m, t.few))
chosen_there m words rows (Some x) e d h = search rules

-- ---- what is given of the least part's set

module _ (m : ℕ) (words : List ℕ) (x : ℕ) (g : Giving m words x) where
  giving_table : Table m words (rows_in (table_of m words))
  giving_table = table_made m words (rows_in (table_of m words)) g.table

  pub giving_count : below (has x) m ≡ part_count m (least_set m words)
  giving_count = set_count m words _ giving_table (least_set m words) x g.is

  pub giving_rows : part_rows m words (has x) ≡ part_rows m words (least_set m words)
  giving_rows = set_rows m words _ giving_table (least_set m words) x g.is

  pub giving_flows : part_flows m (has x) ≡ part_flows m (least_set m words)
  giving_flows = set_flows m words _ giving_table (least_set m words) x g.is

-- what either call makes of it, and the words that it leaves
module _ {A : Type 0} (size : ℕ) (make : Flows → List A) (cells : List A → List ℕ) (m : ℕ) (words old : List ℕ) where
  abbrev outcome : Result (List A)
  outcome = offering size make m words (length old)

  abbrev Called : Answer → List ℕ → Type 0
  Called r new = (r ≡ answer length outcome) × (new ≡ leaves cells outcome old)

  -- of so many flows
  module _ (x : ℕ) (g : Giving m words x) (c : ℕ) (count : c ≡ below (has x) m) where
    sizes : size * c ≡ size * part_count m (least_set m words)
    sizes = ap (λ (i : ℕ). size * i) (count ∙ giving_count m words x g)

    too_small : length old < size * c → outcome ≡ refused NoRoom 0
    unfolding offering
    too_small l = rw (g.comes, lt-leb (size * part_count m (least_set m words)) (length old) (omega (arith, l, sizes)))

    enough : size * c ≤ length old → outcome ≡ good (make (least_set m words))
    unfolding offering
    enough l = rw (g.comes, le-leb (size * part_count m (least_set m words)) (length old) (omega (arith, l, sizes)))

    pub no_room_lem : length old < size * c → Called (refusal NoRoom 0) old
    no_room_lem l = refused_leaves length cells outcome old NoRoom 0 (too_small l)

    pub laid : size * c ≤ length old → length (make (has x)) ≡ below (has x) m → make (has x) ≡ make (least_set m words) → (new : List ℕ)
        → new ≡ over (cells (make (has x))) old → Called (success c) new
    laid l n alike new e =
        let r = enough l in
        (ap success (count ∙ sym n ∙ ap length alike) ∙ ap (answer length) (sym r), rw r (e ∙ ap (λ (y : List A). over (cells y) old) alike))

  -- a refusal
  stopped : (r : Refused) → Refusing m words r → outcome ≡ refused r.why r.flow
  unfolding offering
  stopped r x = rw x.comes

  pub handed_on : (r : Refused) → Refusing m words r → Called (parts (Err r)) old
  handed_on r x =
      let e = refused_leaves length cells outcome old r.why r.flow (stopped r x) in (ap (λ (y : Refused). parts (Err y)) x.is ∙ e.0, e.1)

-- ---- what is sought

module _ (m : ℕ) (words : List ℕ) where
  -- the table's refusal is handed on
  pub no_table : (r : Refused) → parts (Err r) ≡ plain_answer m words → Refusing m words r
  unfolding seeking
  no_table r told = let o = told_err length (table_of m words) r told in record { comes = rw o.0; is = o.1 }

  pub is_table : (n : ℕ) → parts (Ok n) ≡ plain_answer m words → table_of m words ≡ good (rows_in (table_of m words))
  is_table n told = let z = told_ok length (table_of m words) n told in rows_good true m words z.0 z.1.0

  module _ (table : table_of m words ≡ good (rows_in (table_of m words))) where
    pub other_answer : differing m words ≡ false → Refusing m words (named NotDiffering 0)
    unfolding seeking
    other_answer d = record { comes = rw (table, d); is = refl }

    pub set_found : differing m words ≡ true → (x : ℕ) → x ≡ set_of (least_set m words) m → Giving m words x
    unfolding seeking
    set_found d x e = record { table = table; few = (table_made m words (rows_in (table_of m words)) table).few; comes = rw (table, d); is = e }
