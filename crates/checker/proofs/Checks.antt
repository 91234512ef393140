-- The answers of the check's parts, joined to the answer of the whole. Assumes nothing.
use mathlib.Core.Path.{◌≡◌, refl, sym, ◌∙◌, ap, ap₂}
use Prim.Native.Nat.{ℕ, suc, ◌+◌, ◌*◌, ◌≤◌, ◌<◌}
use native.Mathlib.Omega.{arith}
use mathlib.Core.Bool.{Bool, true, false, cond}
use mathlib.Core.List.{List, [], ◌∷◌, ◌++◌, map}
use mathlib.Core.Option.{Option, none, some}
use lib.ListN.{length, take, drop, length-append, drop_of_length-le}
use lib.Dec.{eqb, leb}
use borrow.Author.Tests.{le-leb, lt-leb}
use Rattle.std.specs.Prelude.{flat_map, Ok}
use Rattle.table.specs.declared.refusal.Refusal.{Refusal}
use Rattle.table.specs.declared.refusal.Refusal.TheVariants.{NoRoom}
use Rattle.table.specs.Answers.{Result, good, refused, unless, then, over, parts, answer}
use Rattle.table.specs.Rows.{Row, Words, on_register, bad_register, max_flows}
use Rattle.table.specs.Tables.{Holds, row_at}
use Rattle.table.specs.Plain.{row_words, table_of, rows_in}
use Rattle.table.proofs.AnswerLaws.{told_ok}
use Rattle.table.proofs.Tests.{not_good, good_inj, then_good}
use Rattle.table.proofs.Tables.{Made, Table, AllFit}
use Rattle.table.proofs.Registers.{register_same, register_by}
use Rattle.checker.specs.Clocks.{Clock}
use Rattle.checker.specs.Rules.{clock_of, clock_at, clocks_from, clocks_of, sourced, source_fits, AllWithin}
use Rattle.checker.specs.Answers.{clock_size, checking, clocks_after}
use Rattle.checker.specs.declared.Clock.{Clock as Kept}
use Rattle.checker.specs.Private.Kept as Kept
use Rattle.checker.proofs.Agree.{same_kept}
use Rattle.checker.proofs.Folds.{kept_read, bad_next as next_bad, bad_here as here_bad}
use Rattle.checker.proofs.Giving.{all_given}

-- ---- the registers' sources, over clocks and over words

-- a row by its words: registers are of kind 7
pub row_register : (test : ℕ → ℕ → Bool) (m f : ℕ) (w : Words) (r : Row) → Made m f w r → on_register test r ≡ cond (eqb w.kind 7) (test w.two w.three) true
row_register test m f w r d = ap (on_register test) (sym d.row) ∙ register_by test w.kind w.one w.two w.three d.known

-- the search among the registers, row by row
module _ (m : ℕ) (words : List ℕ) (rows : List Row) (t : Table m words rows) (buffer : List Kept) where
  source_row : (f : ℕ) → f < m → on_register (Kept.fits_in buffer) (row_at rows f) ≡ Kept.source_in buffer (row_words words f)
  source_row f l = row_register (Kept.fits_in buffer) m f (row_words words f) (row_at rows f) (t.row_at_lem f l)

  pub bad_next : (f : ℕ) → f < m → Kept.source_in buffer (row_words words f) ≡ true
      → bad_register (Kept.fits_in buffer) f (drop f rows) ≡ bad_register (Kept.fits_in buffer) (f + 1) (drop (f + 1) rows)
  bad_next f l e = next_bad (Kept.fits_in buffer) f rows (omega (arith, t.size)) (source_row f l ∙ e)

  pub bad_here : (f : ℕ) → f < m → Kept.source_in buffer (row_words words f) ≡ false → bad_register (Kept.fits_in buffer) f (drop f rows) ≡ some f
  bad_here f l e = here_bad (Kept.fits_in buffer) f rows (omega (arith, t.size)) (source_row f l ∙ e)

  pub bad_none : (f : ℕ) → m ≤ f → bad_register (Kept.fits_in buffer) f (drop f rows) ≡ none
  unfolding bad_register
  bad_none f l = let d : drop f rows ≡ [] = drop_of_length-le rows {i = f} (omega (arith, t.size)) in rw d

bad_same : (t u : ℕ → ℕ → Bool) (m f : ℕ) (rows : List Row) → AllFit m f rows → f + length rows ≤ m → ((b a : ℕ) → b < m → a < m → t b a ≡ u b a)
    → bad_register t f rows ≡ bad_register u f rows
unfolding bad_register
bad_same t u m f [] h l e = refl
bad_same t u m f (r ∷ rs) h l e =
    ap₂ (λ (x : Bool) (y : Option ℕ). cond x y (some f)) (register_same (Holds m f) t u r h.0 (λ b a p q. e b a (omega (arith, p)) q)) (bad_same t u m (suc f) rs h.1 (omega arith) e)

clocks_length : (js : List Clock) (rows : List Row) (ks : List Clock) → clocks_from js rows ≡ good ks → length ks ≡ length js + length rows
unfolding clocks_from
clocks_length js [] ks e = omega (arith, ap length (good_inj e))
clocks_length js (r ∷ rs) ks e =
    let x = then_good (clock_of (clock_at js) (length js) r) (λ k. clocks_from (js ++ (k ∷ [])) rs) ks e in
    omega (arith, clocks_length (js ++ (x.0 ∷ [])) rs ks x.2, length-append js (x.0 ∷ []))

module _ (m : ℕ) (words : List ℕ) (rows : List Row) (t : Table m words rows) (ks : List Clock) (e : clocks_from [] rows ≡ good ks)
    (buffer : List Kept) (held : take (length ks) buffer ≡ map Kept.kept ks) (within : AllWithin ks) where
  fits_same : (b a : ℕ) → b < m → a < m → Kept.fits_in buffer b a ≡ source_fits ks b a
  fits_same b a p q =
      let n : length ks ≡ m = omega (arith, clocks_length [] rows ks e, t.size) in
      let x : a < length ks = omega arith in
      let y : b < length ks = omega arith in
      let few : length ks ≤ max_flows = omega (arith, t.few) in
      ap₂ Kept.same (kept_read ks buffer a held few x) (kept_read ks buffer b held few y)
      ∙ sym (same_kept (clock_at ks a) (clock_at ks b) (within a x) (within b y).1)

  pub sourced_by : (o : Option ℕ) → o ≡ bad_register (Kept.fits_in buffer) 0 rows → clocks_of rows ≡ sourced ks o
  unfolding clocks_of
  sourced_by o p = rw (e, p, bad_same (Kept.fits_in buffer) (source_fits ks) m 0 rows t.fits (omega (arith, t.size)) fits_same)

-- the rows all have clocks, which were kept: what the search among the registers finds is what the whole comes to
pub sourced_found : (m : ℕ) (words : List ℕ) (rows : List Row) (n : ℕ) (buffer : List Kept) (o : Option ℕ) → Table m words rows
    → parts (Ok n) ≡ answer length (clocks_from [] rows) → Kept.Assigned (clocks_from [] rows) buffer → o ≡ bad_register (Kept.fits_in buffer) 0 rows
    → (ks : List Clock) × (clocks_from [] rows ≡ good ks) × (clocks_of rows ≡ sourced ks o)
sourced_found m words rows n buffer o t e h p =
    let x = told_ok length (clocks_from [] rows) n e in
    let y = h x.0 x.1.0 in
    (x.0, x.1.0, sourced_by m words rows t x.0 x.1.0 buffer y.0 y.1 o p)

-- ---- the whole

pub clocks_refused : (rows : List Row) (why : Refusal) (f : ℕ) → clocks_from [] rows ≡ refused why f → clocks_of rows ≡ refused why f
unfolding clocks_of
clocks_refused rows why f e = rw e

pub check_table : (m : ℕ) (words : List ℕ) (room : ℕ) (why : Refusal) (f : ℕ) → table_of m words ≡ refused why f → checking m words room ≡ refused why f
unfolding checking
check_table m words room why f e = rw e

pub check_room : (m : ℕ) (words : List ℕ) (room : ℕ) (rows : List Row) → table_of m words ≡ good rows → room < clock_size * m → checking m words room ≡ refused NoRoom 0
unfolding checking
check_room m words room rows e l = rw (e, lt-leb (clock_size * m) room l)

pub check_clocks : (m : ℕ) (words : List ℕ) (room : ℕ) → table_of m words ≡ good (rows_in (table_of m words)) → clock_size * m ≤ room
    → checking m words room ≡ clocks_of (rows_in (table_of m words))
unfolding checking
check_clocks m words room e l = go (table_of m words) e
  where
    go : (r : Result (List Row)) → r ≡ good (rows_in r) → then r (λ rows. unless (leb (clock_size * m) room) NoRoom 0 (clocks_of rows)) ≡ clocks_of (rows_in r)
    go (good rows) x = rw (le-leb (clock_size * m) room l)
    go (refused why f) x = not_good x

sourced_good : (ks js : List Clock) (o : Option ℕ) → sourced ks o ≡ good js → ks ≡ js
sourced_good ks js none e = good_inj e
sourced_good ks js (some f) e = not_good e

clocks_found : (rows : List Row) (ks : List Clock) → clocks_of rows ≡ good ks → clocks_from [] rows ≡ good ks
unfolding clocks_of
clocks_found rows ks e =
    let x = then_good (clocks_from [] rows) (λ js. sourced js (bad_register (source_fits js) 0 rows)) ks e in
    x.1 ∙ ap good (sourced_good x.0 ks (bad_register (source_fits x.0) 0 rows) x.2)

all_clocks : (rows : List Row) (ks : List Clock) → clocks_of rows ≡ good ks → length ks ≡ length rows
all_clocks rows ks e = omega (arith, clocks_length [] rows ks (clocks_found rows ks e))

-- the words that were given out
pub whole_given : (m : ℕ) (words old : List ℕ) (buffer : List Kept) (new : List ℕ) (rows : List Row) (ks : List Clock) → Table m words rows
    → clocks_of rows ≡ good ks → checking m words (length old) ≡ clocks_of rows → (take (length ks) buffer ≡ map Kept.kept ks) × AllWithin ks
    → new ≡ over (flat_map Kept.given (take m buffer)) old → new ≡ clocks_after m words old
whole_given m words old buffer new rows ks t e w held given =
    let n : m ≡ length ks = omega (arith, all_clocks rows ks e, t.size) in
    rw (w, e)
    (given ∙ ap (λ (l : List ℕ). over l old)
    (ap (λ (i : ℕ). flat_map Kept.given (take i buffer)) n ∙ ap (flat_map Kept.given) held.0 ∙ all_given ks held.1))
