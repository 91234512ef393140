-- What the code's rule makes of a row is its clock, or why it has none. Assumes nothing.
use mathlib.Core.Path.{◌≡◌, refl}
use Prim.Native.Nat.{ℕ, zero, suc, ◌+◌, ◌*◌, ◌≤◌, ◌<◌}
use native.Mathlib.Omega.{arith}
use mathlib.Core.Bool.{Bool, true, false, ◌&&◌}
use lib.Dec.{eqb}
use borrow.Author.Tests.{lt-ltb}
use Rattle.std.specs.Prelude.{Ok}
use Rattle.table.specs.declared.refusal.Refusal.TheVariants.{ClocksDiffer, NotPlain}
use Rattle.table.specs.Answers.{Result, good, unless}
use Rattle.table.specs.Rows.{Row, input, constant, combine, register, faster, slower, later, head, tail, sample, merge, unrated, view}
use Rattle.table.specs.Rows.{kinds, kind_count, Words, max_flows}
use Rattle.table.specs.Tables.{Fits}
use Rattle.table.proofs.Tables.{Made, row_fits}
use Rattle.checker.specs.Clocks.{Clock, every, plain, same_clock, under}
use Rattle.checker.specs.Rules.{clock_of, limited, max_derived, Within}
use Rattle.checker.specs.declared.Clock.{Clock as Kept}
use Rattle.checker.specs.Private.Kept.{Verdict}
use Rattle.checker.specs.Private.Kept as Kept
use Rattle.checker.proofs.Agree.{Agrees, agree_guard, plain_count, agree_every, agree_limited, same_kept, agree_under, agree_viewed, extends_kept}
use Rattle.checker.proofs.RuleLaws.{limits, written_fits}
use Rattle.checker.proofs.CheckLaws.{first_snoc}

-- A rule over a clock k within the limits.
module _ (f : ℕ) (k : Clock) (w : Within k) where
  -- kinds 8 to 12 over a clock that is plain
  over_plain : (v : Verdict) (r : Result Clock) → Agrees f v r → Agrees f (Kept.guard (eqb (Kept.kept k).count 0) NotPlain v) (unless (plain k) NotPlain f r)
  over_plain v r h = agree_guard f (eqb (Kept.kept k).count 0) (plain k) NotPlain v r (plain_count k.conditions) (λ (t : eqb (Kept.kept k).count 0 ≡ true). h)

  -- a number that has to fit, and the plain clock where it does
  fitting : (x y n p : ℕ) → n ≤ max_derived → p ≤ max_derived
      → Agrees f (Kept.guard (eqb x y) ClocksDiffer (Ok (Kept.every n p))) (unless (eqb x y) ClocksDiffer f (good (every n p)))
  fitting x y n p a b = agree_guard f (eqb x y) (eqb x y) ClocksDiffer (Ok (Kept.every n p)) (good (every n p)) refl (λ (t : eqb x y ≡ true). agree_every f n p a b)

  -- a clock that has to be equal
  beside :
      (j : Clock) → Within j → (v : Verdict) (r : Result Clock) → Agrees f v r
      → Agrees f (Kept.guard (Kept.same (Kept.kept k) (Kept.kept j)) ClocksDiffer v) (unless (same_clock k j) ClocksDiffer f r)
  beside j x v r h =
      agree_guard f (Kept.same (Kept.kept k) (Kept.kept j)) (same_clock k j) ClocksDiffer v r (same_kept k j w x.1)
      (λ (t : Kept.same (Kept.kept k) (Kept.kept j) ≡ true). h)

agree_merged : (f flow : ℕ) (c a b : Clock) → Within c → Within a → Within b → flow < max_flows
    → Agrees f (Kept.merged flow (Kept.kept c) (Kept.kept a) (Kept.kept b))
    (unless (same_clock a (under c flow true 0) && same_clock b (under c flow false 0)) ClocksDiffer f (good c))
agree_merged f flow c a b wc wa wb l =
    let x : Bool = Kept.extends (Kept.kept a) (Kept.kept c) (Kept.condition flow true 0) in
    let y : Bool = Kept.extends (Kept.kept b) (Kept.kept c) (Kept.condition flow false 0) in
    rw (extends_kept a c flow true wa wc l, extends_kept b c flow false wb wc l)
    (agree_guard f (x && y) (x && y) ClocksDiffer (Ok (Kept.kept c)) (good c) refl (λ t. (refl, wc)))

-- The clocks of the flows before f, and how the check keeps them.
module _ (m f : ℕ) (small : f < max_flows) (clk : ℕ → Clock) (h : ℕ → Kept) (held : (g : ℕ) → g < f → h g ≡ Kept.kept (clk g))
    (within : (g : ℕ) → g < f → Within (clk g)) where
  rule_agrees : (r : Row) → Fits m f r → Agrees f (Kept.rule_of h r) (clock_of clk f r)
  unfolding Kept.rule_of clock_of
  rule_agrees (input n p) t = agree_every f n p (written_fits t.0.upto) (written_fits t.1)
  rule_agrees (constant v n p) t = agree_every f n p (written_fits t.0.upto) (written_fits t.1)
  rule_agrees (combine op a b) t =
      rw (held a t.0, held b t.1) (beside f (clk a) (within a t.0) (clk b) (within b t.1) (Ok (Kept.kept (clk a))) (good (clk a)) (refl, within a t.0))
  rule_agrees (register v b a) t = (rw (held b t.0), within b t.0)
  rule_agrees (faster a k g) t =
      let w = within a t.0 in
      rw (held a t.0) (over_plain f (clk a) w _ _ (fitting f (clk a) w (clk a).period (k * g) g (clk a).phase (written_fits t.2.upto) (limits (clk a) w.0).phase_fits))
  rule_agrees (slower a k) t = rw (held a t.0) (over_plain f (clk a) (within a t.0) _ _ (agree_limited f (k * (clk a).period) (clk a).phase))
  rule_agrees (later a d) t = rw (held a t.0) (over_plain f (clk a) (within a t.0) _ _ (agree_limited f (clk a).period ((clk a).phase + d)))
  rule_agrees (head a v s) t =
      let w = within a t.0 in
      rw (held a t.0) (over_plain f (clk a) w _ _ (fitting f (clk a) w (clk a).phase (s + (clk a).period) (clk a).period s (limits (clk a) w.0).period_fits (written_fits t.1)))
  rule_agrees (tail a) t = rw (held a t.0) (over_plain f (clk a) (within a t.0) _ _ (agree_limited f (clk a).period ((clk a).phase + (clk a).period)))
  rule_agrees (sample u a c) t =
      rw (held a t.0, held c t.1)
      (beside f (clk a) (within a t.0) (clk c) (within c t.1) (Kept.under (Kept.kept (clk a)) (Kept.condition c u 0)) (limited f (under (clk a) c u 0))
      (agree_under c u 0 (omega (arith, t.1)) (omega arith) f (clk a) (within a t.0) (first_snoc (clk a).conditions _ (within a t.0).2 refl)))
  rule_agrees (merge c a b) t =
      rw (held c t.0, held a t.1, held b t.2)
      (agree_merged f c (clk c) (clk a) (clk b) (within c t.0) (within a t.1) (within b t.2) (omega (arith, t.0)))
  rule_agrees unrated t = (refl, refl)
  rule_agrees (view u a c w) t =
      rw (held a t.0, held c t.1) (agree_viewed c u w (omega (arith, t.1)) t.2.upto f (clk a) (clk c) (within a t.0))

  pub row_agrees : (w : Words) (r : Row) → Made m f w r → Agrees f (Kept.rule h w.kind w.one w.two w.three) (clock_of clk f r)
  unfolding Kept.rule
  row_agrees w r d = rw (lt-ltb w.kind kind_count d.known, d.row) (rule_agrees r (row_fits m f w r d))

-- the rule of kinds 2 to 6
pub rule_combine : (h : ℕ → Kept) (n p q r : ℕ) → 2 ≤ n → n ≤ 6 → Kept.rule h n p q r ≡ Kept.combined (h p) (h q)
unfolding Kept.rule Kept.rule_of kinds
rule_combine h zero p q r l u = absurd (omega arith)
rule_combine h (suc zero) p q r l u = absurd (omega arith)
rule_combine h (suc (suc zero)) p q r l u = refl
rule_combine h (suc (suc (suc zero))) p q r l u = refl
rule_combine h (suc (suc (suc (suc zero)))) p q r l u = refl
rule_combine h (suc (suc (suc (suc (suc zero))))) p q r l u = refl
rule_combine h (suc (suc (suc (suc (suc (suc zero)))))) p q r l u = refl
rule_combine h (suc (suc (suc (suc (suc (suc (suc n))))))) p q r l u = absurd (omega arith)
