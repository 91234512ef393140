-- What the call answers and leaves, by what check and closure told. Assumes nothing.
use mathlib.Core.Path.{◌≡◌, refl, sym, ◌∙◌, ap, ap₂}
use Prim.Native.Nat.{ℕ, ◌*◌, ◌≤◌, ◌<◌}
use native.Mathlib.Decide.{dec_lt}
use native.Mathlib.Omega.{arith}
use mathlib.Core.Bool.{Bool, ◌&&◌}
use mathlib.Core.List.{List, ◌++◌}
use lib.Bits.{bit_and}
use lib.ListN.{length, get_or, take, drop, length-append}
use borrow.Author.Tests.{le-leb, lt-leb}
use Rattle.std.specs.Prelude.{Err}
use Rattle.std.proofs.lemmas.List.{get_or-take, length-take-le}
use Rattle.table.specs.declared.Answer.{Answer}
use Rattle.table.specs.declared.refusal.Refusal.{Refusal}
use Rattle.table.specs.declared.refusal.Refusal.TheVariants.{NoRoom}
use Rattle.table.specs.declared.refusal.Refused.{Refused}
use Rattle.table.specs.Answers.{good, refused, success, parts, answer, over}
use Rattle.table.specs.Rows.{max_flows}
use Rattle.table.specs.Plain.{per_flow}
use Rattle.table.proofs.AnswerLaws.{no_zero, refused_leaves, over_again}
use Rattle.table.proofs.PlainRows.{per_length, per_same}
use Rattle.checker.specs.Clocks.{Clock}
use Rattle.checker.specs.Answers.{clock_size, clocks_for, check_answer}
use Rattle.checker.proofs.Bounds.{told_clocks, told_refusal}
use Rattle.reach.specs.Sets.{set_of}
use Rattle.reach.specs.Reach.{closure, sets_of, reaching, reach_answer, sets_after}
use Rattle.reach.proofs.SetBits.{set_same, set_and}
use Rattle.reach.proofs.Closures.{reach_told, sets_at, reaches}
use Rattle.influence.specs.Felt.{input_at, feels, felt_sets, feeling, felt_answer, felt_after}
use Rattle.influence.proofs.Plans.{Plan, plan}
use Rattle.influence.proofs.Conditions.{same_closure}

-- what the call answers and leaves
abbrev pub Felt : ℕ → List ℕ → List ℕ → Answer → List ℕ → Type 0
Felt m words old r new = (r ≡ felt_answer m words (length old)) × (new ≡ felt_after m words old)

-- a refusal of the clocks, and too few sets
no_clocks : (m : ℕ) (words : List ℕ) (room : ℕ) (why : Refusal) (f : ℕ) → clocks_for m words ≡ refused why f → feeling m words room ≡ refused why f
unfolding feeling
no_clocks m words room why f e = rw e

too_small : (m : ℕ) (words : List ℕ) (room : ℕ) (ks : List Clock) → clocks_for m words ≡ good ks → room < m → feeling m words room ≡ refused NoRoom 0
unfolding feeling
too_small m words room ks e l = rw (e, lt-leb m room l)

pub felt_told : (m : ℕ) (words : List ℕ) (room : ℕ) (ks : List Clock) → clocks_for m words ≡ good ks → m ≤ room → feeling m words room ≡ good (felt_sets m words ks m)
unfolding feeling
felt_told m words room ks e l = rw (e, le-leb m room l)

reach_small : (m : ℕ) (words : List ℕ) (room : ℕ) (ks : List Clock) → Plan m words ks → room < m → reaching m words room ≡ refused NoRoom 0
unfolding reaching
reach_small m words room ks p l = rw (p.is_table, lt-leb m room l)

-- the check was given room for the clocks of any plan
module _ (m : ℕ) (words : List ℕ) (room : ℕ) (wide : clock_size * max_flows ≤ room) where
  -- it refused
  pub handed_on : (r : Refused) → parts (Err r) ≡ check_answer m words room → (old : List ℕ) → Felt m words old (parts (Err r)) old
  handed_on r told old =
      let x = told_refusal m words room (parts (Err r)) wide told (no_zero r.why) in
      let e = refused_leaves length (λ (sets : List ℕ). sets) (feeling m words (length old)) old x.0 x.1 (no_clocks m words (length old) x.0 x.1 x.2) in
      (x.3 ∙ e.0, e.1)

  -- it counted
  module _ {n : ℕ} (told : success n ≡ check_answer m words room) where
    ks : List Clock
    ks = (told_clocks m words room (success n) wide told refl).0

    are : clocks_for m words ≡ good ks
    unfolding ks
    are = (told_clocks m words room (success n) wide told refl).2

    p : Plan m words ks
    p = plan m words ks are

    pub few : m ≤ max_flows
    few = p.table.few

    -- and the closure refused
    pub no_room_lem : (old new : List ℕ) (r : Refused) → parts (Err r) ≡ reach_answer m words (length old) → new ≡ sets_after m words old → Felt m words old (parts (Err r)) new
    no_room_lem old new r closed swept = elim (dec_lt (length old) m) [ yes l ↦ small l | no l ↦ absurd (enough (omega arith)) ]
      where
        enough : m ≤ length old → ⊥
        enough l = no_zero r.why (ap (λ (a : Answer). a.number) (closed ∙ ap (answer length) (reach_told m words (length old) p.rows p.is_table l)))

        small : length old < m → Felt m words old (parts (Err r)) new
        small l =
            let r = reach_small m words (length old) ks p l in
            let f = too_small m words (length old) ks are l in
            (closed ∙ rw (r, f), swept ∙ rw (r, f))

    -- or counted
    module _ (old new : List ℕ) {k : ℕ} (closed : success k ≡ reach_answer m words (length old)) (swept : new ≡ sets_after m words old) where
      pub room_for : m ≤ length old
      room_for = (reaches m words old (ap (λ (a : Answer). a.number) (sym closed))).room

      pub sets_for : m ≤ length new
      sets_for =
          let sets : List ℕ = sets_of m words m in
          let e : new ≡ over sets old = swept ∙ rw (reach_told m words (length old) p.rows p.is_table room_for) in
          rw e (omega (arith, length-append sets (drop (length sets) old), per_length (λ f. set_of (closure m words f) m) m))

      pub first_sets : m ≡ length (take m new)
      first_sets = sym (length-take-le m new sets_for)

      -- the input rows of a closure are what the flow feels
      kept : (inputs f : ℕ) → f < m → inputs ≡ set_of (input_at words) m → bit_and inputs (get_or new f 0) ≡ set_of (feels m words ks f) m
      unfolding feels
      kept inputs f l e =
          ap₂ bit_and e (ap (λ (s : List ℕ). get_or s f 0) swept ∙ sets_at m words old p.rows p.is_table room_for f l)
          ∙ set_and (input_at words) (closure m words f) m
          ∙ set_same _ _ m (λ g x. ap (λ (b : Bool). input_at words g && b) (sym (same_closure m words ks p f g l)))

      pub done : (inputs : ℕ) (last : List ℕ) → inputs ≡ set_of (input_at words) m
          → last ≡ per_flow (λ f. bit_and inputs (get_or (take m new) f 0)) (length (take m new)) → Felt m words old (success k) (last ++ drop m new)
      done inputs last e x =
          let sets : List ℕ = felt_sets m words ks m in
          let r = reach_told m words (length old) p.rows p.is_table room_for in
          let f = felt_told m words (length old) ks are room_for in
          let size : length (sets_of m words m) ≡ length sets = per_length _ m ∙ sym (per_length _ m) in
          let masked : last ≡ sets =
          x ∙ ap (per_flow _) (sym first_sets) ∙ per_same _ _ m (λ g l. ap (bit_and inputs) (get_or-take m new g 0 l) ∙ kept inputs g l e) in (
            closed ∙ ap (answer length) r ∙ ap success size ∙ ap (answer length) (sym f),
            ap (λ (l : List ℕ). l ++ drop m new) masked
                ∙ ap (λ (i : ℕ). sets ++ drop i new) (sym (per_length _ m))
                ∙ ap (over sets) (swept ∙ rw r)
                ∙ over_again sets (sets_of m words m) old (sym size)
                ∙ rw f,
          )
