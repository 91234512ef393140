-- Rows without conditions, by their kinds and in a table; their clocks are plain. Assumes nothing.
use mathlib.Core.Path.{◌≡◌, refl, sym, ◌∙◌, subst}
use Prim.Native.Nat.{ℕ, zero, suc, ◌+◌, ◌<◌}
use native.Mathlib.Omega.{arith}
use mathlib.Core.Bool.{Bool, true, false, not, ◌||◌, true≢false}
use mathlib.Core.List.{List, [], ◌∷◌}
use lib.ListN.{length}
use borrow.Author.Tests.{not-true}
use Rattle.table.specs.Answers.{good}
use Rattle.table.specs.Rows.{Row, input, constant, combine, register, faster, slower, later, head, tail, sample, merge, unrated, view}
use Rattle.table.specs.Rows.{Kind, kinds, kind_count, decode}
use Rattle.table.specs.Plain.{row_words, table_of}
use Rattle.table.specs.Tables.{Fits, row_at}
use Rattle.table.proofs.Tests.{and_left, and_right, one_of_lem}
use Rattle.table.proofs.Lists.{Each, each_of, below_suc}
use Rattle.table.proofs.Entries.{every, kind_test}
use Rattle.table.proofs.Tables.{AllFit, Made, Table, table_made}
use Rattle.checker.specs.Clocks.{Clock, plain}
use Rattle.checker.proofs.RuleLaws.{Rule, by_input, by_constant, by_combine, by_register, by_faster, by_slower, by_later, by_head, by_tail}
use Rattle.checker.proofs.RuleLaws.{by_sample, by_merge, by_view, rule_of_lem}
use Rattle.checker.proofs.CheckLaws.{Clocked}
use Rattle.calendar.specs.Calendar.{samples, free}

-- a row that samples, merges or views, and one that does not
abbrev pub conditional : Row → Bool
conditional (input n p) = false
conditional (constant v n p) = false
conditional (combine op a b) = false
conditional (register v b a) = false
conditional (faster a k g) = false
conditional (slower a k) = false
conditional (later a d) = false
conditional (head a v s) = false
conditional (tail a) = false
conditional (sample u a c) = true
conditional (merge c a b) = true
conditional unrated = false
conditional (view u a c w) = true

abbrev pub FreeRow : Row → Type 0
FreeRow r = conditional r ≡ false

abbrev pub AllFree : ℕ → List Row → Type 0
AllFree f rows = Each (λ (g : ℕ). FreeRow) f rows

-- kinds other than those of sampling, merging and views make such rows
free_kind : (x y z : ℕ) (n : ℕ) (k : Kind) → Bool
free_kind x y z n k = samples n || not (conditional (k.make x y z))

kinds_free : (x y z : ℕ) → every (free_kind x y z) 0 kinds ≡ true
unfolding kinds free_kind
kinds_free x y z = refl

row_free : (n x y z : ℕ) → n < kind_count → samples n ≡ false → FreeRow (decode n x y z)
unfolding free_kind
row_free n x y z l h =
    one_of_lem (samples n) _ (λ e. absurd (true≢false (sym e ∙ h))) (not-true (conditional (decode n x y z)))
    (kind_test (free_kind x y z) (kinds_free x y z) n l)

free_at : (m : ℕ) (words : List ℕ) → free m words ≡ true → (f : ℕ) → f < m → samples (row_words words f).kind ≡ false
unfolding free
free_at zero words e f l = absurd (omega arith)
free_at (suc m) words e f l =
    below_suc (λ (g : ℕ). samples (row_words words g).kind ≡ false) m (free_at m words (and_left (free m words) _ e))
    (not-true (samples (row_words words m).kind) (and_right (free m words) _ e)) f l

pub free_rows : (m : ℕ) (words : List ℕ) (rows : List Row) → table_of m words ≡ good rows → free m words ≡ true → AllFree 0 rows
free_rows m words rows e u = go (table_made m words rows e)
  where
    go : Table m words rows → AllFree 0 rows
    go t = each_of (λ (g : ℕ). FreeRow) rows (tail 0) (λ f l. at f (rw t.size at l))
      where
        at : (f : ℕ) → f < m → FreeRow (row_at rows f)
        at f l =
            let d : Made m f (row_words words f) (row_at rows f) = t.row_at_lem f l in
            subst FreeRow d.row (row_free (row_words words f).kind _ _ _ d.known (free_at m words u f l))

-- the clocks of such rows are plain
abbrev pub AllPlain : (ℕ → Clock) → ℕ → Type 0
AllPlain clk m = (f : ℕ) → f < m → plain (clk f) ≡ true

module _ (clk : ℕ → Clock) (m : ℕ) where
  plain_row_lem : (f : ℕ) (r : Row) (k : Clock) → Rule clk r k → Fits m f r → FreeRow r → AllPlain clk f → plain k ≡ true
  plain_row_lem f r k by_input w x s = refl
  plain_row_lem f r k by_constant w x s = refl
  plain_row_lem f r k (by_combine {a = a} y) w x s = s a w.0
  plain_row_lem f r k (by_register {b = b}) w x s = s b w.0
  plain_row_lem f r k (by_faster y z) w x s = refl
  plain_row_lem f r k (by_slower y z) w x s = refl
  plain_row_lem f r k (by_later y z) w x s = refl
  plain_row_lem f r k (by_head y z) w x s = refl
  plain_row_lem f r k (by_tail y z) w x s = refl
  plain_row_lem f r k (by_sample y l) w x s = absurd (true≢false x)
  plain_row_lem f r k (by_merge y z) w x s = absurd (true≢false x)
  plain_row_lem f r k (by_view y z v) w x s = absurd (true≢false x)

  plain_from : (f : ℕ) (rs : List Row) → AllFit m f rs → AllFree f rs → Clocked clk f rs → AllPlain clk f → AllPlain clk (f + length rs)
  plain_from f [] w x k s = subst (AllPlain clk) (omega arith) s
  plain_from f (r ∷ rs) w x k s =
      subst (AllPlain clk) (omega arith)
      (plain_from (suc f) rs w.1 x.1 k.1
      (below_suc (λ (g : ℕ). plain (clk g) ≡ true) f s (plain_row_lem f r (clk f) (rule_of_lem clk f r (clk f) k.0) w.0 x.0 s)))

  pub all_plain : (rs : List Row) → AllFit m 0 rs → AllFree 0 rs → Clocked clk 0 rs → AllPlain clk (length rs)
  all_plain rs w x k = subst (AllPlain clk) (omega arith) (plain_from 0 rs w x k (λ f l. absurd (omega arith)))
