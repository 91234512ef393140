-- What a table that is not refused has: its rows, one by one, with their fields in range and in place. Assumes nothing.
use mathlib.Core.Path.{◌≡◌, refl, sym, ◌∙◌, ap, subst}
use Prim.Native.Nat.{ℕ, zero, suc, ◌+◌, ◌*◌, ◌≤◌, ◌<◌}
use native.Mathlib.Omega.{arith}
use mathlib.Core.Bool.{Bool, true, ◌&&◌}
use mathlib.Core.List.{List, ◌∷◌}
use mathlib.Core.Option.{Option, none, some}
use lib.ListN.{length, get_or, drop, get_elem?}
use lib.Seq.{drop-drop, get_or-drop}
use lib.Dec.{eqb, leb}
use borrow.Author.Tests.{leb-true, ltb-true, eqb-true}
use Rattle.table.specs.declared.Answer.{Answer}
use Rattle.table.specs.declared.refusal.Refusal.TheVariants.{UnknownKind, OutOfRange, Misplaced, BadCount}
use Rattle.table.specs.Answers.{good, answer}
use Rattle.table.specs.Rows.{Row, Field, operand, source, copies, period, ticks, value, unused, least, most, ranged, placed}
use Rattle.table.specs.Rows.{Kind, kinds, kind_count, kind_at, decode, Words, row_size, each, known, kind_of, fields_of, row_of, takes, row_by, max_flows}
use Rattle.table.specs.Plain.{four, row_words, split, rows_from, count_fits, table_by, table_of, rows_in}
use Rattle.table.specs.Tables.{row_at, In, Holds, WordsHave, RowHas, FieldsFit, Fits}
use Rattle.table.proofs.Lists.{Each, each_entry}
use Rattle.table.proofs.Entries.{kind_there, kind_known}
use Rattle.table.proofs.AnswerLaws.{answer_zero}
use Rattle.table.proofs.Tests.{and_left, and_right, good_inj, not_good, unless_good, then_good}

-- every row of a table of m flows, the first with number f
abbrev pub AllFit : ℕ → ℕ → List Row → Type 0
AllFit m f rows = Each (Fits m) f rows

-- The row that four words make.
pub record Made (m f : ℕ) (w : Words) (r : Row) : Type 0 where
  pub known : w.kind < kind_count
  pub row : decode w.kind w.one w.two w.three ≡ r
  pub in_range : each ranged (kind_at w.kind) w ≡ true
  pub in_place : each (placed m f) (kind_at w.kind) w ≡ true

pub known_good : {A : Type 0} (f : ℕ) (o : Option A) (a : A) → known f o ≡ good a → o ≡ some a
known_good f none a e = not_good e
known_good f (some b) a e = ap some (good_inj e)

pub made : (m f : ℕ) (w : Words) (r : Row) → row_of m f w ≡ good r → Made m f w r
unfolding row_of fields_of
made m f w r e =
    let k : (k : Kind) × (kind_of f w.kind ≡ good k) × (fields_of m f k w ≡ good r) = then_good (kind_of f w.kind) (λ k. fields_of m f k w) r e in
    let h = kind_known w.kind k.0 (known_good f (get_elem? kinds w.kind) k.0 k.1) in
    go h.0 (ap (λ (j : Kind). fields_of m f j w) h.1 ∙ k.2)
  where
    go : w.kind < kind_count → fields_of m f (kind_at w.kind) w ≡ good r → Made m f w r
    go l e =
        let x = unless_good (each ranged (kind_at w.kind) w) OutOfRange f _ r e in
        let y = unless_good (each (placed m f) (kind_at w.kind) w) Misplaced f _ r x.1 in
        record { known = l; row = good_inj y.1; in_range = x.0; in_place = y.0 }

pub ranges : (t : Field) (x : ℕ) → ranged t x ≡ true → In (least t) x (most t)
unfolding ranged
ranges t x e = record { from = leb-true (least t) x (and_left (leb (least t) x) _ e); upto = leb-true x (most t) (and_right (leb (least t) x) _ e) }

holds : (m f : ℕ) (t : Field) (x : ℕ) → ranged t x ≡ true → placed m f t x ≡ true → Holds m f t x
unfolding placed
holds m f operand x r p = ltb-true x f p
holds m f source x r p = ltb-true x m p
holds m f copies x r p = ranges copies x r
holds m f period x r p = ranges period x r
holds m f ticks x r p = (ranges ticks x r).upto
holds m f value x r p = tt
holds m f unused x r p = tt

-- a field of a table holds the same in a table of more flows
holds_more : (m n f : ℕ) (t : Field) (x : ℕ) → m ≤ n → Holds m f t x → Holds n f t x
holds_more m n f operand x l h = h
holds_more m n f source x l h = omega (arith, h)
holds_more m n f copies x l h = h
holds_more m n f period x l h = h
holds_more m n f ticks x l h = h
holds_more m n f value x l h = h
holds_more m n f unused x l h = h

pub fit_more : (m n f : ℕ) (k : Kind) (x y z : ℕ) → m ≤ n → FieldsFit m f k x y z → FieldsFit n f k x y z
fit_more m n f k x y z l h =
    (holds_more m n f k.one x l h.0, holds_more m n f k.two y l h.1, holds_more m n f k.three z l h.2)

-- a test that each field passed
pub each_one : (test : Field → ℕ → Bool) (k : Kind) (w : Words) → each test k w ≡ true → test k.one w.one ≡ true
each_one test k w e = and_left (test k.one w.one) _ e

pub each_two : (test : Field → ℕ → Bool) (k : Kind) (w : Words) → each test k w ≡ true → test k.two w.two ≡ true
each_two test k w e = and_left (test k.two w.two) _ (and_right (test k.one w.one) _ e)

pub each_three : (test : Field → ℕ → Bool) (k : Kind) (w : Words) → each test k w ≡ true → test k.three w.three ≡ true
each_three test k w e = and_right (test k.two w.two) _ (and_right (test k.one w.one) _ e)

pub fields_fit : (m f : ℕ) (w : Words) (r : Row) → Made m f w r → FieldsFit m f (kind_at w.kind) w.one w.two w.three
fields_fit m f w r d =
    let k : Kind = kind_at w.kind in (
      holds m f k.one w.one (each_one ranged k w d.in_range) (each_one (placed m f) k w d.in_place),
      holds m f k.two w.two (each_two ranged k w d.in_range) (each_two (placed m f) k w d.in_place),
      holds m f k.three w.three (each_three ranged k w d.in_range) (each_three (placed m f) k w d.in_place),
    )

-- what the fields have, the row that each kind makes of them has
Makes : (Field → ℕ → Type 0) → ℕ → ℕ → ℕ → ℕ → Kind → Type 0
Makes P x y z i k = WordsHave P k x y z → RowHas P (k.make x y z)

kinds_make : (P : Field → ℕ → Type 0) (x y z : ℕ) → Each (Makes P x y z) 0 kinds
unfolding kinds Makes
kinds_make P x y z = (first, (last, (first, (first, (first, (first, (first, (last, (all, (first, (first, (outer, (one, (first, (first, (all, (none_of, (all, (all, tt)))))))))))))))))))
  where
    first : {A B C : Type 0} → A × B × C → A × B
    first h = (h.0, h.1)

    last : {A B C : Type 0} → A × B × C → B × C
    last h = (h.1, h.2)

    outer : {A B C : Type 0} → A × B × C → A × C
    outer h = (h.0, h.2)

    one : {A B C : Type 0} → A × B × C → A × Unit {0}
    one h = (h.0, tt)

    all : {A : Type 0} → A → A
    all h = h

    none_of : {A : Type 0} → A → Unit {0}
    none_of h = tt

pub row_has : (P : Field → ℕ → Type 0) (m f : ℕ) (w : Words) (r : Row) → Made m f w r → WordsHave P (kind_at w.kind) w.one w.two w.three → RowHas P r
unfolding Makes
row_has P m f w r d h =
    subst (RowHas P) d.row
    (each_entry (Makes P w.one w.two w.three) 0 kinds w.kind (kind_at w.kind) (kinds_make P w.one w.two w.three)
    (kind_there w.kind d.known) h)

pub row_fits : (m f : ℕ) (w : Words) (r : Row) → Made m f w r → Fits m f r
row_fits m f w r d = row_has (Holds m f) m f w r d (fields_fit m f w r d)

-- A table that is not refused, where the rates are asked for or are not.
pub record TableBy (rated : Bool) (m : ℕ) (words : List ℕ) (rows : List Row) : Type 0 where
  pub some_flow : 1 ≤ m
  pub few : m ≤ max_flows
  pub words_size : length words ≡ row_size * m
  pub size : length rows ≡ m
  pub fits : AllFit m 0 rows
  pub row_at_lem : (f : ℕ) → f < m → Made m f (row_words words f) (row_at rows f)
  pub taken : (f : ℕ) → f < m → takes rated (row_words words f).kind ≡ true

abbrev pub Table : ℕ → List ℕ → List Row → Type 0
Table = TableBy true

record Rows (rated : Bool) (m f n : ℕ) (words : List ℕ) (rows : List Row) : Type 0 where
  size : length rows ≡ n
  fits : AllFit m f rows
  row_at_lem : (i : ℕ) → i < n → Made m (f + i) (row_words words i) (row_at rows i)
  taken : (i : ℕ) → i < n → takes rated (row_words words i).kind ≡ true

rows_made : (rated : Bool) (m f n : ℕ) (words : List ℕ) (rows : List Row) → rows_from rated m f (split n words) ≡ good rows → Rows rated m f n words rows
unfolding split rows_from
rows_made rated m f zero words rows e =
    subst (Rows rated m f 0 words) (good_inj e) record { size = refl; fits = tt; row_at_lem = λ i l. absurd (omega arith); taken = λ i l. absurd (omega arith) }
rows_made rated m f (suc n) words rows e =
    let w : Words = four words in
    let a = then_good (row_by rated m f w) _ rows e in
    let b = then_good (rows_from rated m (suc f) (split n (drop row_size words))) (λ rs. good (a.0 ∷ rs)) rows a.2 in
    let u = unless_good (takes rated w.kind) UnknownKind f (row_of m f w) a.0 a.1 in
    subst (Rows rated m f (suc n) words) (good_inj b.2)
    (longer a.0 b.0 u.0 (made m f w a.0 u.1) (rows_made rated m (suc f) n (drop row_size words) b.0 b.1))
  where
    longer : (r : Row) (rs : List Row) → takes rated (four words).kind ≡ true → Made m f (four words) r → Rows rated m (suc f) n (drop row_size words) rs
        → Rows rated m f (suc n) words (r ∷ rs)
    longer r rs u d t = record { size = ap suc t.size; fits = (row_fits m f (four words) r d, t.fits); row_at_lem = at; taken = taken }
      where
        next : (i : ℕ) → drop (row_size * i) (drop row_size words) ≡ drop (row_size * suc i) words
        next i = let s : row_size + row_size * i ≡ row_size * suc i = omega arith in drop-drop (row_size * i) row_size words ∙ ap (λ (j : ℕ). drop j words) s

        taken : (i : ℕ) → i < suc n → takes rated (row_words words i).kind ≡ true
        taken zero l = u
        taken (suc i) l = subst (λ (v : List ℕ). takes rated (four v).kind ≡ true) (next i) (t.taken i (omega arith))

        at : (i : ℕ) → i < suc n → Made m (f + i) (row_words words i) (row_at (r ∷ rs) i)
        at zero l = let q : f ≡ f + 0 = omega arith in subst (λ (j : ℕ). Made m j (four words) r) q d
        at (suc i) l =
            let q : suc f + i ≡ f + suc i = omega arith in
            subst (λ (j : ℕ). Made m j (row_words words (suc i)) (row_at rs i)) q
            (subst (λ (l : List ℕ). Made m (suc f + i) (four l) (row_at rs i)) (next i) (t.row_at_lem i (omega arith)))

pub made_by : (rated : Bool) (m : ℕ) (words : List ℕ) (rows : List Row) → table_by rated m words ≡ good rows → TableBy rated m words rows
unfolding table_by
made_by rated m words rows e =
    let a = unless_good (count_fits m && eqb (length words) (row_size * m)) BadCount 0 _ rows e in
    let c : count_fits m ≡ true = and_left (count_fits m) _ a.0 in
    go (leb-true 1 m (and_left (leb 1 m) _ c)) (leb-true m max_flows (and_right (leb 1 m) _ c)) (eqb-true _ _ (and_right (count_fits m) _ a.0)) (rows_made rated m 0 m words rows a.1)
  where
    go : 1 ≤ m → m ≤ max_flows → length words ≡ row_size * m → Rows rated m 0 m words rows → TableBy rated m words rows
    go p q s t = record {
      some_flow = p;
      few = q;
      words_size = s;
      size = t.size;
      fits = t.fits;
      row_at_lem = λ f l. subst (λ (j : ℕ). Made m j (row_words words f) (row_at rows f)) (omega arith) (t.row_at_lem f l);
      taken = t.taken;
    }

pub table_made : (m : ℕ) (words : List ℕ) (rows : List Row) → table_of m words ≡ good rows → Table m words rows
table_made = made_by true

pub rows_good : (rated : Bool) (m : ℕ) (words : List ℕ) (rows : List Row) → table_by rated m words ≡ good rows → table_by rated m words ≡ good (rows_in (table_by rated m words))
rows_good rated m words rows e = rw e

-- a table that was examined and not refused
pub examined : (rated : Bool) (m : ℕ) (words : List ℕ) (found : Answer) → found ≡ answer length (table_by rated m words) → found.number ≡ 0
    → table_by rated m words ≡ good (rows_in (table_by rated m words))
examined rated m words found told z =
    let x = answer_zero length (table_by rated m words) (ap (λ (w : Answer). w.number) (sym told) ∙ z) in
    rows_good rated m words x.0 x.1

-- four words that are read one by one
pub four_read : (l : List ℕ) (i : ℕ) → ◌≡◌ {A = Words} (record { kind = get_or l i 0; one = get_or l (i + 1) 0; two = get_or l (i + 2) 0; three = get_or l (i + 3) 0 }) (four (drop i l))
four_read l i =
    let e : i ≡ i + 0 = omega arith in
    rw (get_or-drop i l 0 0, get_or-drop i l 1 0, get_or-drop i l 2 0, get_or-drop i l 3 0, ← e)
