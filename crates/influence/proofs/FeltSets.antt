-- What the sets have that the call leaves. Assumes nothing.
use mathlib.Core.Path.{◌≡◌, sym, ◌∙◌, ap}
use mathlib.Core.Logic.{◌↔◌}
use Prim.Native.Nat.{ℕ, ◌≤◌, ◌<◌}
use mathlib.Core.Bool.{true}
use mathlib.Core.List.{List}
use lib.Dec.{leb}
use lib.ListN.{length, get_or}
use borrow.Author.Tests.{leb-true}
use Rattle.table.specs.declared.refusal.Refusal.TheVariants.{NoRoom}
use Rattle.table.specs.Answers.{good, unless}
use Rattle.table.proofs.Tests.{and_left, and_right, and_both, then_good, unless_good}
use Rattle.table.proofs.AnswerLaws.{answer_zero}
use Rattle.table.proofs.PlainRows.{per_over}
use Rattle.checker.specs.Clocks.{Clock}
use Rattle.checker.specs.Answers.{clocks_for}
use Rattle.reach.specs.Sets.{set_of, has}
use Rattle.reach.specs.Reach.{named, Leads}
use Rattle.reach.proofs.SetBits.{set_has, set_member}
use Rattle.reach.proofs.Closing.{through_leads, leads_through}
use Rattle.calendar.specs.Calendar.{Accepts}
use Rattle.influence.specs.Felt.{rests, input_at, Feels, feels, felt_sets, feeling, felt_answer, felt_after}
use Rattle.influence.specs.Influence.{InSet}
use Rattle.influence.proofs.Plans.{Plan, plan, accepted}
use Rattle.influence.proofs.Conditions as conditions
use Rattle.influence.proofs.Calls.{felt_told}

pub given : (m : ℕ) (words clocks sets : List ℕ) → Accepts m words clocks → m ≤ length sets → (felt_answer m words (length sets)).number ≡ 0
given m words clocks sets x l = let a = accepted m words clocks x in rw (felt_told m words (length sets) a.0 a.1 l)

-- a call that answered 0 had a set a flow
room_for : (m : ℕ) (words sets : List ℕ) → (felt_answer m words (length sets)).number ≡ 0 → m ≤ length sets
unfolding feeling
room_for m words sets e =
    let a = answer_zero length (feeling m words (length sets)) e in
    let b = then_good (clocks_for m words) (λ ks. unless (leb m (length sets)) NoRoom 0 (good (felt_sets m words ks m))) a.0 a.1 in
    leb-true m (length sets) (unless_good (leb m (length sets)) NoRoom 0 _ a.0 b.2).0

module _ (m : ℕ) (words sets : List ℕ) (e : (felt_answer m words (length sets)).number ≡ 0) (ks : List Clock) (c : clocks_for m words ≡ good ks) (f : ℕ) (l : f < m) where
  set_is : get_or (felt_after m words sets) f 0 ≡ set_of (feels m words ks f) m
  set_is = rw (felt_told m words (length sets) ks c (room_for m words sets e)) (per_over (λ g. set_of (feels m words ks g) m) sets m f l)

  p : Plan m words ks
  p = plan m words ks c

  in_set : (i : ℕ) → InSet (felt_after m words sets) f i → (i < m) × (feels m words ks f i ≡ true)
  in_set i h = set_member (feels m words ks f) m i p.table.few (ap (λ (s : ℕ). has s i) (sym set_is) ∙ h)

  pub of_set : (i : ℕ) → i < m → feels m words ks f i ≡ true → InSet (felt_after m words sets) f i
  of_set i y h = ap (λ (s : ℕ). has s i) set_is ∙ set_has (feels m words ks f) m i p.table.few y ∙ h

  pub exact : (i : ℕ) → InSet (felt_after m words sets) f i ↔ Feels m words ks f i
  unfolding feels
  exact i = (
    λ h. let x = in_set i h in
        record {
          flow = x.0;
          input = and_left (input_at words i) _ x.1;
          reached = through_leads (rests words ks) m f i (and_right (input_at words i) _ x.1);
        },
    λ h. of_set i h.flow (and_both h.input (leads_through (rests words ks) m (conditions.rests_inside m words ks p) f i l h.reached).1),
  )

pub by_rows : (m : ℕ) (words : List ℕ) (ks : List Clock) → clocks_for m words ≡ good ks → (f g : ℕ) → f < m → Leads (rests words ks) f g ↔ Leads (named words) f g
by_rows m words ks c f g l =
    let p = plan m words ks c in
    (λ x. (conditions.by_rows m words ks p f g l x).1, conditions.by_rests m words ks p f g)
