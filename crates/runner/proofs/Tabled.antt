-- What the words of a table that is not refused make. Assumes nothing.
use Rattle.std.proofs.Common.{◌≡◌, ℕ, ◌+◌, ◌*◌, ◌<◌, Bool, true, false, eqb, List, get_or, sym, ap, ◌∙◌, subst, ne_eqb}
use Rattle.table.specs.Rows.{Row, kind_count, kind_at, decode, max_flows, row_size, Words, on_register}
use Rattle.table.specs.Answers.{good}
use Rattle.table.specs.Plain.{table_of, row_words}
use Rattle.table.specs.Tables.{row_at, FieldsFit, Fits}
use Rattle.table.proofs.Tables.{Made, fields_fit, fit_more, row_fits, Table, table_made, four_read}
use Rattle.table.proofs.Registers.{register_by}
use Rattle.semantics.specs.Cells.{History}
use Rattle.semantics.specs.Runs.{is_input}
use Rattle.semantics.proofs.Inputs.{input_kind}
use Rattle.runner.specs.declared.carried.Held.{Held}
use Rattle.runner.specs.Private.Ready.{rows_in, Plain, Collected, looks_back}
use Rattle.runner.proofs.Decoded as decoded

-- Row f's words as the code reads them, and the row that they make.
abbrev pub words_at : List ℕ → ℕ → Words
words_at words f =
    record {
      kind = get_or words (row_size * f) 0;
      one = get_or words (row_size * f + 1) 0;
      two = get_or words (row_size * f + 2) 0;
      three = get_or words (row_size * f + 3) 0;
    }

abbrev pub made_of : Words → Row
made_of w = decode w.kind w.one w.two w.three

-- the same as a row is read at once
pub words_read : (words : List ℕ) (f : ℕ) (w : Words) → w ≡ row_words words f → w ≡ words_at words f
words_read words f w e = e ∙ sym (four_read words (row_size * f))

pub plain_table : (m : ℕ) (words : List ℕ) → Plain m words → Table m words (rows_in m words)
plain_table m words P = table_made m words (rows_in m words) P.rows

pub plain : (m : ℕ) (words : List ℕ) → table_of m words ≡ good (rows_in m words) → Plain m words
plain m words e = let T = table_made m words (rows_in m words) e in record { rows = e; few = T.few; size = T.words_size }

-- row f by its four words
pub record RowAt (m : ℕ) (words : List ℕ) (row : Row) (f : ℕ) : Type 0 where
  pub made : made_of (words_at words f) ≡ row
  pub fits : Fits m f row
  pub known : (words_at words f).kind < kind_count
  pub legal : FieldsFit max_flows f (kind_at (words_at words f).kind) (words_at words f).one (words_at words f).two (words_at words f).three
  pub no_register : (get_or words (row_size * f) 0 ≡ 7 → ⊥) → (test : ℕ → ℕ → Bool) → on_register test row ≡ true
  pub no_look : looks_back (get_or words (row_size * f) 0) ≡ false → (hist : ℕ → History) (w : Held) → Collected row hist w
  pub is_input_lem : is_input row ≡ eqb (get_or words (row_size * f) 0) 0

module _ (m : ℕ) (words : List ℕ) (rows : List Row) (T : Table m words rows) where
  pub row_of_lem : (f : ℕ) → f < m → RowAt m words (row_at rows f) f
  row_of_lem f l =
      let w : Words = words_at words f in
      let d : Made m f w (row_at rows f) = subst (λ (v : Words). Made m f v (row_at rows f)) (sym (four_read words (row_size * f))) (T.row_at_lem f l) in
      record {
        made = d.row;
        fits = row_fits m f w (row_at rows f) d;
        known = d.known;
        legal = fit_more m max_flows f (kind_at w.kind) w.one w.two w.three T.few (fields_fit m f w (row_at rows f) d);
        no_register =
            λ n test. ap (on_register test) (sym d.row) ∙ register_by test w.kind w.one w.two w.three d.known ∙ rw (ne_eqb w.kind 7 n);
        no_look =
            λ n hist v. record {
              of_later = λ a b e p. absurd (decoded.no_later w.kind w.one w.two w.three a b d.known n (d.row ∙ e));
              of_view = λ u a c x e. absurd (decoded.no_view w.kind w.one w.two w.three u a c x d.known n (d.row ∙ e));
            };
        is_input_lem = ap is_input (sym d.row) ∙ input_kind w.kind w.one w.two w.three d.known;
      }
