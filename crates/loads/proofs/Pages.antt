-- The page of an accepted plan, and what the call comes to in each case. Assumes nothing.
use mathlib.Core.Path.{◌≡◌, refl, sym, ◌∙◌, ap, subst}
use Prim.Native.Nat.{ℕ, ◌+◌, ◌*◌, ◌≤◌, ◌<◌}
use native.Mathlib.Omega.{arith}
use mathlib.Core.List.{List}
use lib.ListN.{length, get_or}
use borrow.Author.Tests.{le-leb, lt-leb, eq-eqb, ne_eqb}
use Rattle.text.specs.Text.{Wrote}
use Rattle.text.proofs.Writing.{whole_text}
use Rattle.table.specs.declared.Answer.{Answer}
use Rattle.table.specs.declared.refusal.Refusal.{Refusal}
use Rattle.table.specs.declared.refusal.Refusal.TheVariants.{WrongTimes, ShortPage}
use Rattle.table.specs.Answers.{good, refused, refusal, success}
use Rattle.table.proofs.AnswerLaws.{refused_leaves}
use Rattle.table.specs.Rows.{max_flows}
use Rattle.table.specs.Plain.{table_of}
use Rattle.table.proofs.Tests.{then_good}
use Rattle.checker.specs.Clocks.{Clock}
use Rattle.checker.specs.Rules.{clock_at, clocks_of}
use Rattle.checker.specs.Answers.{clock_size, clocks_for, check_answer}
use Rattle.checker.proofs.CheckLaws.{AllSane}
use Rattle.checker.proofs.Bounds.{accepted_sane, told_refusal, Told, told, told_word, told_period}
use Rattle.loads.specs.Loads.{max_time, load, max_load, Line, line_of, lines_from, sorted, Among, Ordered, line_text, total, total_text, page_text, page_of, line_size, paging, page_answer, page_after}
use Rattle.loads.specs.Private.Words.{line_in, lines_in}
use Rattle.loads.proofs.Rounding.{rounded_bound}
use Rattle.loads.proofs.Lines.{Bounded, bounded}
use Rattle.loads.proofs.Orders.{sorted_size, sorted_same, sorted_only, lines_length, of_lines, lines_ascending, standing}
use Rattle.loads.proofs.Sums.{lines_same, total_bound}
use Rattle.loads.proofs.Widths.{line_length, total_length, page_length}

-- ---- the page of an accepted plan

-- times of 16 bits make loads that are bounded
pub bounded_loads : (times : List ℕ) (ks : List Clock) (m : ℕ) → ((f : ℕ) → get_or times f 0 ≤ max_time) → (f : ℕ) → f < m → load (line_of ks times f) ≤ max_load
bounded_loads times ks m t f l = omega (arith, rounded_bound (1000 * get_or times f 0) (clock_at ks f).period, t f)

-- the same by the words that the check left
pub bounded_words : (clocks times : List ℕ) → ((f : ℕ) → get_or times f 0 ≤ max_time) → (f : ℕ) → load (line_in clocks times f) ≤ max_load
bounded_words clocks times t f = omega (arith, rounded_bound (1000 * get_or times f 0) (get_or clocks (clock_size * f) 0), t f)

module _ (m : ℕ) (words times : List ℕ) (ks : List Clock) (e : clocks_for m words ≡ good ks) where
  pub accepted : (length ks ≡ m) × (m ≤ max_flows) × AllSane (clock_at ks) m
  accepted = let t = then_good (table_of m words) clocks_of ks e in accepted_sane m words t.0 ks t.1 t.2

  abbrev flows : List Line
  flows = lines_from (line_of ks times) (length ks) 0

  abbrev pub lines : List Line
  lines = sorted flows

  of_flows : (l : Line) → Among l lines → (f : ℕ) × (f < m) × (l ≡ line_of ks times f)
  of_flows l i =
      let x = of_lines (line_of ks times) (length ks) 0 l (sorted_only l flows i) in
      (x.0, omega (arith, x.2, accepted.0), x.3)

  pub bounds : (l : Line) → Among l lines → Bounded l
  bounds l i =
      let x = of_flows l i in
      subst Bounded (sym x.2) (bounded ks times x.0 (omega (arith, x.1, accepted.1)) (accepted.2 x.0 x.1))

  pub ordered : Ordered flows lines
  ordered =
      record {
        standing = standing 0 lines (lines_ascending (line_of ks times) (λ f. refl) (length ks) (omega (arith, accepted.0, accepted.1))) bounds;
        size = sorted_size flows;
        same = λ l. sorted_same l flows;
        only = λ l. sorted_only l flows;
      }

  module _ (loads : (f : ℕ) → f < m → load (line_of ks times f) ≤ max_load) where
    pub load_bounds : (l : Line) → Among l lines → load l ≤ max_load
    load_bounds l i = let x = of_flows l i in omega (arith, loads x.0 x.1, ap load x.2)

    pub widths : (l : Line) → Among l lines → length (line_text l) ≡ line_size
    widths l i = line_length l (bounds l i) (load_bounds l i)

    size : length lines ≡ m
    size = ordered.size ∙ lines_length (line_of ks times) (length ks) 0 ∙ accepted.0

    pub total_bounds : total lines ≤ max_flows * max_load
    total_bounds = omega (arith, total_bound lines load_bounds, size, accepted.1)

    pub last : length (total_text (total lines)) ≡ line_size
    last = total_length (total lines) total_bounds

    pub page_size : length (page_of ks times) ≡ line_size * (m + 1)
    page_size = omega (arith, page_length lines widths last, size)

  -- ---- each case

  module _ (room : ℕ) where
    paging_times : (length times ≡ m → ⊥) → paging m words times room ≡ refused WrongTimes 0
    unfolding paging
    paging_times h = rw (e, ne_eqb (length times) m h)

    paging_short : length times ≡ m → room < line_size * (m + 1) → paging m words times room ≡ refused ShortPage 0
    unfolding paging
    paging_short t h = rw (e, eq-eqb (length times) m t, lt-leb (line_size * (m + 1)) room h)

    paging_good : length times ≡ m → line_size * (m + 1) ≤ room → paging m words times room ≡ good (page_of ks times)
    unfolding paging
    paging_good t h = rw (e, eq-eqb (length times) m t, le-leb (line_size * (m + 1)) room h)

paging_refused : (m : ℕ) (words times : List ℕ) (room : ℕ) (why : Refusal) (f : ℕ) → clocks_for m words ≡ refused why f → paging m words times room ≡ refused why f
unfolding paging
paging_refused m words times room why f e = rw e

-- ---- after the check

-- the check's refusal is handed on
pub checked_refusal : (m : ℕ) (words times : List ℕ) (room : ℕ) (r : Answer) → clock_size * max_flows ≤ room → r ≡ check_answer m words room → (r.number ≡ 0 → ⊥)
    → (old : List ℕ) → (r ≡ page_answer m words times (length old)) × (old ≡ page_after m words times old)
checked_refusal m words times room r l e z old =
    let x = told_refusal m words room r l e z in
    let p = refused_leaves length (λ (page : List ℕ). page) (paging m words times (length old)) old x.0 x.1 (paging_refused m words times (length old) x.0 x.1 x.2) in
    (x.3 ∙ p.0, p.1)

module _ {m : ℕ} {words zeros clocks : List ℕ} {found : Answer} (T : Told m words zeros clocks found) (times : List ℕ) where
  pub handed_on : (found.number ≡ 0 → ⊥) → (old : List ℕ) → (found ≡ page_answer m words times (length old)) × (old ≡ page_after m words times old)
  handed_on = checked_refusal m words times (length zeros) found T.room T.answered

  module _ (zero : found.number ≡ 0) where
    abbrev ks : List Clock
    ks = (told T zero).0

    clocked : clocks_for m words ≡ good ks
    clocked = (told T zero).2

    pub few : m ≤ max_flows
    few = (accepted m words times ks clocked).1

    pub wrong_times_lem : (length times ≡ m → ⊥) → (old : List ℕ) → (refusal WrongTimes 0 ≡ page_answer m words times (length old)) × (old ≡ page_after m words times old)
    wrong_times_lem h old = refused_leaves length (λ (page : List ℕ). page) (paging m words times (length old)) old WrongTimes 0 (paging_times m words times ks clocked (length old) h)

    pub short : length times ≡ m → (old : List ℕ) → length old < line_size * (m + 1)
        → (refusal ShortPage 0 ≡ page_answer m words times (length old)) × (old ≡ page_after m words times old)
    short t old h = refused_leaves length (λ (page : List ℕ). page) (paging m words times (length old)) old ShortPage 0 (paging_short m words times ks clocked (length old) t h)

    -- the lines by the words that the check left are those by the clocks
    line : (f : ℕ) → f < m → line_in clocks times f ≡ line_of ks times f
    line f l =
        let p : get_or clocks (clock_size * f) 0 ≡ (clock_at ks f).period = told_period T zero f l in
        let q : get_or clocks (clock_size * f + 1) 0 ≡ (clock_at ks f).phase = told_word T zero f 1 l (omega arith) in
        let n : get_or clocks (clock_size * f + 2) 0 ≡ length (clock_at ks f).conditions = told_word T zero f 2 l (omega arith) in
        cc

    same_lines : lines_in clocks times m ≡ lines_from (line_of ks times) (length ks) 0
    same_lines =
        lines_same (line_in clocks times) (line_of ks times) m 0 (λ (f : ℕ). λ (l : f < 0 + m). line f (omega arith))
        ∙ ap (λ (n : ℕ). lines_from (line_of ks times) n 0) (sym (accepted m words times ks clocked).0)

    pub done : {old new : List ℕ} {size : ℕ} → length times ≡ m → line_size * (m + 1) ≤ length old → ((f : ℕ) → f < m → load (line_in clocks times f) ≤ max_load)
        → Wrote 0 (page_text (sorted (lines_in clocks times m))) old size new
        → (size ≡ line_size * (m + 1)) × (success size ≡ page_answer m words times (length old)) × (new ≡ page_after m words times old)
    done {old} {new} {size} t h b w =
        let loads : (f : ℕ) → f < m → load (line_of ks times f) ≤ max_load = λ (f : ℕ). λ (l : f < m). subst (λ (y : Line). load y ≤ max_load) (line f l) (b f l) in
        let bytes : List ℕ = page_of ks times in
        let n : length bytes ≡ line_size * (m + 1) = page_size m words times ks clocked loads in
        let same : page_text (sorted (lines_in clocks times m)) ≡ bytes = ap (λ (ls : List Line). page_text (sorted ls)) same_lines in
        let v = whole_text (omega (arith, n)) (subst (λ (b : List ℕ). Wrote 0 b old size new) same w) in
        let g : paging m words times (length old) ≡ good bytes = paging_good m words times ks clocked (length old) t h in
        (v.0 ∙ n, rw g (ap success v.0), rw g v.1)
