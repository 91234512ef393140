-- Flow f's set has exactly the flows to which f leads. Assumes nothing.
use mathlib.Core.Path.{◌≡◌, sym, ◌∙◌, ap}
use Prim.Native.Nat.{ℕ, ◌≤◌, ◌<◌}
use mathlib.Core.Bool.{true}
use mathlib.Core.List.{List}
use lib.Dec.{leb}
use lib.ListN.{length, get_or}
use borrow.Author.Tests.{leb-true, le-leb}
use Rattle.table.specs.declared.refusal.Refusal.TheVariants.{NoRoom}
use Rattle.table.specs.Answers.{good, unless}
use Rattle.table.specs.Rows.{Row}
use Rattle.table.specs.Plain.{table_of}
use Rattle.table.proofs.AnswerLaws.{answer_zero}
use Rattle.table.proofs.Tables.{table_made}
use Rattle.table.proofs.Tests.{unless_good, then_good}
use Rattle.reach.specs.Sets.{set_of, has}
use Rattle.reach.specs.Reach.{named, Leads, closure, sets_of, reaching, reach_answer, sets_after}
use Rattle.reach.specs.Closures.{Closures}
use Rattle.reach.proofs.SetBits.{set_has, set_member}
use Rattle.reach.proofs.Closing.{through_leads, leads_through, named_inside}
use Rattle.reach.proofs.SetLists.{over_entry}

-- ---- what the call comes to

pub reach_told : (m : ℕ) (words : List ℕ) (room : ℕ) (rows : List Row) → table_of m words ≡ good rows → m ≤ room → reaching m words room ≡ good (sets_of m words m)
unfolding reaching
reach_told m words room rows e l = rw (e, le-leb m room l)

-- the other way round
pub record Reaches (m : ℕ) (words old : List ℕ) : Type 0 where
  pub rows : List Row
  pub table : table_of m words ≡ good rows
  pub room : m ≤ length old

pub reaches : (m : ℕ) (words old : List ℕ) → (reach_answer m words (length old)).number ≡ 0 → Reaches m words old
unfolding reaching
reaches m words old e =
    let a = answer_zero length (reaching m words (length old)) e in
    let b = then_good (table_of m words) (λ rows. unless (leb m (length old)) NoRoom 0 (good (sets_of m words m))) a.0 a.1 in
    let c = unless_good (leb m (length old)) NoRoom 0 (good (sets_of m words m)) a.0 b.2 in
    record { rows = b.0; table = b.1; room = leb-true m (length old) c.0 }

pub sets_at : (m : ℕ) (words old : List ℕ) (rows : List Row) → table_of m words ≡ good rows → m ≤ length old
    → (f : ℕ) → f < m → get_or (sets_after m words old) f 0 ≡ set_of (closure m words f) m
sets_at m words old rows e room f l = rw (reach_told m words (length old) rows e room) (over_entry m words old f l)

-- ---- the flows of a set

module _ (m : ℕ) (words old : List ℕ) (e : (reach_answer m words (length old)).number ≡ 0) (f g : ℕ) (l : f < m) where
  set_leads : has (get_or (sets_after m words old) f 0) g ≡ true → (g < m) × Leads (named words) f g
  set_leads h =
      let r = reaches m words old e in
      let t = table_made m words r.rows r.table in
      let x : has (set_of (closure m words f) m) g ≡ true = ap (λ (i : ℕ). has i g) (sym (sets_at m words old r.rows r.table r.room f l)) ∙ h in
      let y = set_member (closure m words f) m g t.few x in
      (y.0, through_leads (named words) m f g y.1)

  set_led : Leads (named words) f g → has (get_or (sets_after m words old) f 0) g ≡ true
  set_led h =
      let r = reaches m words old e in
      let t = table_made m words r.rows r.table in
      let x = leads_through (named words) m (named_inside m words r.rows t) f g l h in
      ap (λ (i : ℕ). has i g) (sets_at m words old r.rows r.table r.room f l) ∙ set_has (closure m words f) m g t.few x.0 ∙ x.1

pub closures : Closures
closures = record { leads = set_leads; led = set_led }
