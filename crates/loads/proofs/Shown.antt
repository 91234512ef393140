-- What a caller finds on a page. Assumes nothing.
use mathlib.Core.Path.{◌≡◌, refl, sym, ◌∙◌, ap}
use Prim.Native.Nat.{ℕ, ◌+◌, ◌*◌, ◌≤◌, ◌<◌}
use mathlib.Core.List.{List}
use lib.ListN.{length, get_or}
use lib.Dec.{leb, eqb}
use borrow.Author.Tests.{eqb-true}
use Rattle.table.specs.declared.Answer.{Answer}
use Rattle.table.specs.declared.refusal.Refusal.TheVariants.{WrongTimes, ShortPage}
use Rattle.table.specs.Answers.{Result, good, unless, over, answer, leaves}
use Rattle.table.proofs.AnswerLaws.{answer_zero}
use Rattle.table.proofs.Tests.{good_inj, then_good, unless_good}
use Rattle.checker.specs.Clocks.{Clock}
use Rattle.checker.specs.Answers.{clocks_for, check_answer}
use Rattle.checker.proofs.Bounds.{check_whole}
use Rattle.loads.specs.Loads.{rounded, max_time, max_load, load, line_of, page_of, line_size, paging}
use Rattle.loads.specs.Shown.{Shown, LoadPage}
use Rattle.loads.proofs.Rounding.{rounded_nearest, nearest_rounded}
use Rattle.loads.proofs.Orders.{one_order}
use Rattle.loads.proofs.Pages.{bounded_loads, accepted, checked_refusal, lines, ordered, bounds, load_bounds, widths, total_bounds, last, page_size}

-- a page that was made is that of the clocks that the check gives, with one time a flow
page_made : (m : ℕ) (words times : List ℕ) (room : ℕ) (page : List ℕ) → paging m words times room ≡ good page
    → (ks : List Clock) × (clocks_for m words ≡ good ks) × (length times ≡ m) × (page_of ks times ≡ page)
unfolding paging
page_made m words times room page e =
    let x =
    then_good (clocks_for m words)
    (λ ks. unless (eqb (length times) m) WrongTimes 0 (unless (leb (line_size * (m + 1)) room) ShortPage 0 (good (page_of ks times)))) page e in
    let y = unless_good (eqb (length times) m) WrongTimes 0 (unless (leb (line_size * (m + 1)) room) ShortPage 0 (good (page_of x.0 times))) page x.2 in
    let z = unless_good (leb (line_size * (m + 1)) room) ShortPage 0 (good (page_of x.0 times)) page y.1 in
    (x.0, x.1, eqb-true (length times) m y.0, good_inj z.1)

-- what a call shows that left the page of these clocks
page_shown : (m : ℕ) (words times old new : List ℕ) (r : Answer) (ks : List Clock) → clocks_for m words ≡ good ks → length times ≡ m
    → ((f : ℕ) → get_or times f 0 ≤ max_time) → new ≡ over (page_of ks times) old → r.count ≡ length (page_of ks times) → Shown m words times old new r
page_shown m words times old new r ks e n t left count =
    record {
      clocks = ks;
      checked = λ room l. check_whole m words room l ∙ e;
      one_each = ((accepted m words times ks e).0, n);
      lines = lines m words times ks e;
      ordered = ordered m words times ks e;
      positive = λ l i. (bounds m words times ks e l i).positive;
      nearest = λ l i. rounded_nearest (1000 * l.worst) l.period (bounds m words times ks e l i).positive;
      load_bound = load_bounds m words times ks e loads;
      total_bound = total_bounds m words times ks e loads;
      width = widths m words times ks e loads;
      last_width = last m words times ks e loads;
      left = left;
      count = count;
      size = page_size m words times ks e loads;
    }
  where
    loads : (f : ℕ) → f < m → load (line_of ks times f) ≤ max_load
    loads = bounded_loads times ks m t

pub load_page : LoadPage
load_page =
    record {
      handed_on = λ m words times old room l z.
          let p = checked_refusal m words times room (check_answer m words room) l refl z old in
          (sym p.0, sym p.1);
      shown = λ m words times old new r a s t z.
          let x = answer_zero length (paging m words times (length old)) (sym (ap (λ (w : Answer). w.number) a) ∙ z) in
          let p = page_made m words times (length old) x.0 x.1 in
          let e : paging m words times (length old) ≡ good (page_of p.0 times) = x.1 ∙ ap good (sym p.3) in
          page_shown m words times old new r p.0 p.1 p.2 t (s ∙ ap (λ (w : Result (List ℕ)). leaves (λ bytes. bytes) w old) e)
          (ap (λ (w : Answer). w.count) (a ∙ ap (answer length) e));
      one_order = one_order;
      one_nearest = λ x p o. (rounded x p, rounded_nearest x p o, λ s n. nearest_rounded x p s o n);
    }
