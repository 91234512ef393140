-- The clocks of a table that the check accepts are sane and within the limits; what the check's answer tells. Assumes nothing.
use mathlib.Core.Path.{◌≡◌, refl, sym, ◌∙◌, ap, subst}
use Prim.Native.Nat.{ℕ, ◌+◌, ◌*◌, ◌≤◌, ◌<◌}
use native.Mathlib.Nat.{add-zero}
use native.Mathlib.Omega.{arith}
use mathlib.Core.List.{List}
use lib.ListN.{length, get_or, drop}
use lib.Dec.{leb}
use borrow.Author.Tests.{le-leb}
use Rattle.table.specs.declared.Answer.{Answer}
use Rattle.table.specs.declared.refusal.Refusal.{Refusal}
use Rattle.table.specs.declared.refusal.Refusal.TheVariants.{NoRoom}
use Rattle.table.specs.Answers.{Result, good, refused, unless, then, refusal, answer, leaves}
use Rattle.table.specs.Rows.{Row, max_flows}
use Rattle.table.specs.Plain.{table_of}
use Rattle.table.proofs.AnswerLaws.{answer_zero, answer_other}
use Rattle.table.proofs.Tests.{unless_good, then_good}
use Rattle.table.proofs.Tables.{table_made}
use Rattle.checker.specs.Clocks.{Clock}
use Rattle.checker.specs.Rules.{clock_at, clocks_of, Within, AllWithin}
use Rattle.checker.specs.Answers.{clock_size, clock_words, clocks_words, clocks_for, checking, check_answer, clocks_after, check_number}
use Rattle.checker.proofs.RuleLaws.{within_limits_lem}
use Rattle.checker.proofs.CheckLaws.{Sane, AllSane, below_le, sane_clocks}
use Rattle.checker.proofs.WordLaws.{word_at_lem}

sane_within : (clk : ℕ → Clock) (f : ℕ) (k : Clock) → f ≤ max_flows → Sane clk f k → Within k
sane_within clk f k l s = (
  within_limits_lem k (record { period_fits = s.period_fits; phase_fits = s.phase_fits; few = s.few }),
  below_le f max_flows k.conditions l s.below,
  s.viewed,
)

-- what an accepted table's clocks are: one a flow, and sane
pub accepted_sane : (m : ℕ) (words : List ℕ) (rows : List Row) (ks : List Clock) → table_of m words ≡ good rows → clocks_of rows ≡ good ks
    → (length ks ≡ m) × (m ≤ max_flows) × AllSane (clock_at ks) m
accepted_sane m words rows ks e c =
    let t = table_made m words rows e in
    let s = sane_clocks m rows ks t.fits c in
    (s.0 ∙ t.size, t.few, subst (AllSane (clock_at ks)) t.size s.1)

-- the rows whose clocks the check comes to
checked_rows : (m : ℕ) (words : List ℕ) (room : ℕ) (ks : List Clock) → checking m words room ≡ good ks
    → (rows : List Row) × (table_of m words ≡ good rows) × (clocks_of rows ≡ good ks)
unfolding checking
checked_rows m words room ks e =
    let x = then_good (table_of m words) (λ rows. unless (leb (clock_size * m) room) NoRoom 0 (clocks_of rows)) ks e in
    (x.0, x.1, (unless_good (leb (clock_size * m) room) NoRoom 0 (clocks_of x.0) ks x.2).1)

-- the rows and clocks of a table that it accepts
pub accepted_rows : (m : ℕ) (words : List ℕ) (room : ℕ) → (check_answer m words room).number ≡ 0
    → (rows : List Row) × (ks : List Clock) × (table_of m words ≡ good rows) × (clocks_of rows ≡ good ks) × (checking m words room ≡ good ks)
accepted_rows m words room z =
    let a = answer_zero length (checking m words room) z in
    let x = checked_rows m words room a.0 a.1 in
    (x.0, a.0, x.1, x.2, a.1)

-- so they are within the limits
pub checked_within : (m : ℕ) (words : List ℕ) (room : ℕ) (ks : List Clock) → checking m words room ≡ good ks → (length ks ≡ m) × (m ≤ max_flows) × AllWithin ks
checked_within m words room ks e =
    let x = checked_rows m words room ks e in
    let s = accepted_sane m words x.0 ks x.1 x.2 in
    (s.0, s.1, λ f l. sane_within (clock_at ks) f (clock_at ks f) (omega (arith, s.0, s.1)) (s.2 f (omega (arith, s.0))))

-- with room for the clocks of any table, the check comes to what the rules come to
pub check_whole : (m : ℕ) (words : List ℕ) (room : ℕ) → clock_size * max_flows ≤ room → checking m words room ≡ clocks_for m words
unfolding checking
check_whole m words room l = go (table_of m words) refl
  where
    go : (r : Result (List Row)) → table_of m words ≡ r → then r (λ rows. unless (leb (clock_size * m) room) NoRoom 0 (clocks_of rows)) ≡ then r clocks_of
    go (good rows) e = let h : clock_size * m ≤ room = omega (arith, (table_made m words rows e).few) in rw (le-leb (clock_size * m) room h)
    go (refused why f) e = refl

pub check_number_lem : (m : ℕ) (words : List ℕ) → check_number m words ≡ (answer length (clocks_for m words)).number
check_number_lem m words = ap (λ (r : Result (List Clock)). (answer length r).number) (check_whole m words (clock_size * max_flows) (omega arith))

-- what the check's answer tells then: the clocks, or why there are none
module _ (m : ℕ) (words : List ℕ) (room : ℕ) (r : Answer) (l : clock_size * max_flows ≤ room) (e : r ≡ check_answer m words room) where
  pub told_clocks : r.number ≡ 0 → (ks : List Clock) × (checking m words room ≡ good ks) × (clocks_for m words ≡ good ks)
  told_clocks z =
      let x = answer_zero length (checking m words room) (ap (λ (a : Answer). a.number) (sym e) ∙ z) in
      (x.0, x.1, sym (check_whole m words room l) ∙ x.1)

  pub told_refusal : (r.number ≡ 0 → ⊥) → (why : Refusal) × (f : ℕ) × (clocks_for m words ≡ refused why f) × (r ≡ refusal why f)
  told_refusal z =
      let x = answer_other length (checking m words room) (λ q. z (ap (λ (a : Answer). a.number) e ∙ q)) in
      (x.0, x.1, sym (check_whole m words room l) ∙ x.2, e ∙ ap (answer length) x.2)

-- what the check answered and left, in a buffer that has room for any table
pub record Told (m : ℕ) (words zeros clocks : List ℕ) (found : Answer) : Type 0 where
  pub room : clock_size * max_flows ≤ length zeros
  pub answered : found ≡ check_answer m words (length zeros)
  pub stored : clocks ≡ clocks_after m words zeros

module _ {m : ℕ} {words zeros clocks : List ℕ} {found : Answer} (T : Told m words zeros clocks found) (zero : found.number ≡ 0) where
  pub told : (ks : List Clock) × (checking m words (length zeros) ≡ good ks) × (clocks_for m words ≡ good ks)
  told = told_clocks m words (length zeros) found T.room T.answered zero

  -- word i of flow f's clock
  pub told_word : (f i : ℕ) → f < m → i < clock_size → get_or clocks (clock_size * f + i) 0 ≡ get_or (clock_words (clock_at told.0 f)) i 0
  told_word f i l x =
      ap (λ (w : List ℕ). get_or w (clock_size * f + i) 0) (T.stored ∙ ap (λ (r : Result (List Clock)). leaves clocks_words r zeros) told.1)
      ∙ word_at_lem told.0 (drop (length (clocks_words told.0)) zeros) f i (omega (arith, (checked_within m words (length zeros) told.0 told.1).0)) x

  -- the first one is its period
  pub told_period : (f : ℕ) → f < m → get_or clocks (clock_size * f) 0 ≡ (clock_at told.0 f).period
  told_period f l = ap (λ (i : ℕ). get_or clocks i 0) (sym (add-zero (clock_size * f))) ∙ told_word f 0 l (omega arith)
