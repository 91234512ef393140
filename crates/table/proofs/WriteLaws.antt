-- Writing the packed form: a row, the rows from one on, and the whole. Assumes nothing.
use mathlib.Core.Path.{◌≡◌, refl, sym, ap, ap₂, ◌∙◌, subst}
use mathlib.Core.Bool.{Bool, false, ◌&&◌}
use mathlib.Core.List.{List, [], ◌∷◌, ◌++◌, append_assoc, append-nil}
use Prim.Native.Nat.{ℕ, zero, suc, ◌+◌, ◌-◌, ◌*◌, ◌%◌, ◌^◌, ◌<◌, ◌≤◌}
use native.Mathlib.Nat.{sub-zero, lt_of_lt_of_le}
use native.Mathlib.Numerals.{add-one}
use native.Mathlib.Omega.{arith}
use lib.Dec.{eqb}
use lib.ListN.{length, get_or, take, drop, length-append, drop_of_length-le}
use lib.Seq.{length-take-le}
use lib.Pow.{pow_mono}
use borrow.Author.Tests.{le-leb, lt-leb}
use Rattle.std.specs.Prelude.{Err}
use Rattle.table.specs.declared.Answer.{Answer}
use Rattle.table.specs.declared.refusal.Refused.{Refused}
use Rattle.table.specs.declared.refusal.Refusal.TheVariants.{BadCount, NoRoom}
use Rattle.table.specs.Answers.{Result, good, refused, then, answer, success, parts, refusal}
use Rattle.table.specs.Rows.{Field, Row, width, Words, row_of, row_size, kind_at, kind_count}
use Rattle.table.specs.Plain.{split, rows_from, count_fits, table_by, draft_of, row_words}
use Rattle.table.specs.Bits.{to_bits, byte_count, bytes}
use Rattle.table.specs.Packed.{count_width, kind_width, row_bits, rows_bits, packed, writing, write_answer, bytes_after}
use Rattle.table.specs.Lengths.{row_length}
use Rattle.table.specs.Private.Codes.{code, widths, verdict, Ready}
use Rattle.table.specs.Private.Laid.{Begun, Put}
use Rattle.table.proofs.Tests.{unless_good}
use Rattle.table.proofs.Tables.{made_by}
use Rattle.table.proofs.BitLaws.{length_to_bits}
use Rattle.table.proofs.Entries.{width_at, code_lt, kind_there}
use Rattle.table.proofs.Lengths.{row_size_lem}
use Rattle.table.proofs.AnswerLaws.{no_zero, told_err}
use Rattle.table.proofs.Records.{Outcome, fine, stopped, row_outcome, kind_lt, split_next, split_end, size_next, survey_next}
use Rattle.table.proofs.PlainRows.{length_split}
use Rattle.table.proofs.Puts.{more_bits, more_lt, put_none, put_put}
use Rattle.table.proofs.ByteLaws.{begun_bytes, length_bytes}

-- ---- a row as one number

-- a number of p bits
pub record Number (p n : ℕ) (bs : List Bool) : Type 0 where
  pub below : n < 2 ^ p
  pub is : to_bits p n ≡ bs

pub number_kind : (k : ℕ) → k < kind_count → Number kind_width k (to_bits kind_width k)
number_kind k h = record { below = omega arith; is = refl }

-- one field more, as the code puts it behind: its width is in the list by the field's number
module _ {p h f : ℕ} {bs : List Bool} (t : Field) (had : Number p h bs) (field : f ≡ code t) where
  width_is : get_or widths f 0 ≡ width t
  width_is = ap (λ (k : ℕ). get_or widths k 0) field ∙ width_at t

  pub number_fits : p + width t ≤ 64 → (f < 7) × (h < 2 ^ (64 - get_or widths f 0))
  number_fits room = (rw field (code_lt t), lt_of_lt_of_le had.below (pow_mono (omega (arith, width_is))))

  pub number_more : {n : ℕ} (x : ℕ) → n ≡ h * 2 ^ get_or widths f 0 + x % 2 ^ get_or widths f 0 → Number (p + width t) n (bs ++ to_bits (width t) x)
  number_more {n} x e =
      rw (e, width_is)
      (record {
        below = more_lt p (width t) h x had.below;
        is = more_bits p (width t) h x ∙ ap (λ (l : List Bool). l ++ to_bits (width t) x) had.is;
      })

-- a row of a known kind
pub number_row : {n : ℕ} (w : Words) → w.kind < kind_count
    → Number (kind_width + width (kind_at w.kind).one + width (kind_at w.kind).two + width (kind_at w.kind).three) n
    (((to_bits kind_width w.kind ++ to_bits (width (kind_at w.kind).one) w.one) ++ to_bits (width (kind_at w.kind).two) w.two)
    ++ to_bits (width (kind_at w.kind).three) w.three)
    → (n < 2 ^ row_length w.kind) × (to_bits (row_length w.kind) n ≡ row_bits w)
unfolding row_length row_bits
number_row w h d = (d.below, d.is ∙ rw (kind_there w.kind h) (simp append_assoc))

-- ---- the rows from one on

-- the rows after one that is accepted are accepted
row_went : (m f : ℕ) (w : Words) (ws : List Words) → answer (λ rs. m) (rows_from false m f (w ∷ ws)) ≡ success m → verdict (row_of m f w) ≡ 0
unfolding rows_from
row_went m f w ws e = go (row_of m f w) (row_outcome m f w) e
  where
    go : (r : Result Row) → Outcome f r → answer (λ rs. m) (then r λ x. then (rows_from false m (suc f) ws) λ rs. good (x ∷ rs)) ≡ success m → verdict r ≡ 0
    go r (fine x) e = refl
    go r (stopped why) e = ap (λ (a : Answer). a.number) e

-- the rows from row on are still to be put, behind those that are put behind the count
pub record Putting (m row at size : ℕ) (words out old : List ℕ) : Type 0 where
  pub accepted : answer (λ rs. m) (rows_from false m row (split (m - row) (drop (row_size * row) words))) ≡ success m
  pub done : List Bool
  pub place : at ≡ count_width + length done
  pub put : Put size count_width done old out
  pub left : done ++ rows_bits (split (m - row) (drop (row_size * row) words)) ≡ rows_bits (split m words)

pub putting_starts : (m at size : ℕ) (words old : List ℕ) → answer (λ rs. m) (rows_from false m 0 (split m words)) ≡ success m
    → at ≡ count_width → Putting m 0 at size words old old
putting_starts m at size words old a e =
    record { accepted = rw sub-zero a; done = []; place = e; put = put_none size count_width old; left = rw sub-zero }

module _ {m row at size : ℕ} {words out old : List ℕ} (pt : Putting m row at size words out old) where
  pub putting_ends : row ≡ m → Put size count_width (rows_bits (split m words)) old out
  unfolding rows_bits
  putting_ends e =
      let n : split (m - row) (drop (row_size * row) words) ≡ [] = split_end m row words (omega arith) (omega arith) in
      subst (λ (bs : List Bool). Put size count_width bs old out) (sym (append-nil pt.done) ∙ (rw n at pt.left)) pt.put

  module _ (w : Words) (is : w ≡ row_words words row) (below : row < m) where
    fine_row : verdict (row_of m row w) ≡ 0
    fine_row = rw is (row_went m row (row_words words row) _ (rw (split_next m row words below) at pt.accepted))

    pub known_row : w.kind < kind_count
    known_row = kind_lt false m row w fine_row

    pub room_row : size ≡ byte_count (count_width + length (rows_bits (split m words))) → at + row_length w.kind ≤ 8 * size
    room_row fits =
        let rest = rows_bits (split (m - row) (drop (row_size * row) words)) in
        let all : length pt.done + length rest ≡ length (rows_bits (split m words)) = sym (length-append pt.done rest) ∙ ap length pt.left in
        omega (arith, fits, all, pt.place, size_next false m row words w is below fine_row)

    pub putting_goes : (q n : ℕ) (new : List ℕ) → q ≡ at + row_length w.kind → to_bits (row_length w.kind) n ≡ row_bits w
        → Put size at (to_bits (row_length w.kind) n) out new → Putting m (row + 1) q size words new old
    unfolding rows_bits
    putting_goes q n new eq e put =
        let rest = split (m - (row + 1)) (drop (row_size * (row + 1)) words) in
        let next : w ∷ rest ≡ split (m - row) (drop (row_size * row) words) = rw (add-one row, is) (sym (split_next m row words below)) in
        record {
          accepted = survey_next false m row words w is below fine_row ∙ pt.accepted;
          done = pt.done ++ row_bits w;
          place = omega (arith, eq, pt.place, length-append pt.done (row_bits w), row_size_lem w known_row);
          put =
              put_put size count_width at pt.done (row_bits w) old out new pt.place pt.put
              (subst (λ (bs : List Bool). Put size at bs out new) e put);
          left = append_assoc pt.done (row_bits w) (rows_bits rest) ∙ ap (λ (ws : List Words). pt.done ++ rows_bits ws) next ∙ pt.left;
        }

-- ---- the whole

abbrev pub table_bits : ℕ → List ℕ → List Bool
table_bits m words = to_bits count_width m ++ rows_bits (split m words)

pub packed_split : (m : ℕ) (words : List ℕ) → packed (split m words) ≡ bytes (table_bits m words)
unfolding packed
packed_split m words = rw (length_split m words)

table_length : (m : ℕ) (words : List ℕ) → length (table_bits m words) ≡ count_width + length (rows_bits (split m words))
table_length m words = length-append (to_bits count_width m) (rows_bits (split m words)) ∙ ap (λ (n : ℕ). n + length (rows_bits (split m words))) (length_to_bits count_width m)

packed_length : (m : ℕ) (words : List ℕ) → length (packed (split m words)) ≡ byte_count (count_width + length (rows_bits (split m words)))
packed_length m words =
    ap length (packed_split m words) ∙ length_bytes (byte_count (length (table_bits m words))) (table_bits m words) ∙ ap byte_count (table_length m words)

-- an accepted draft has rows
table_good : (m : ℕ) (words : List ℕ) → answer (λ rs. m) (draft_of m words) ≡ success m → (rows : List Row) × (draft_of m words ≡ good rows)
table_good m words e = go (draft_of m words) refl e
  where
    go : (r : Result (List Row)) → draft_of m words ≡ r → answer (λ rs. m) r ≡ success m → (rows : List Row) × (draft_of m words ≡ good rows)
    go (good rows) u e = (rows, u)
    go (refused why f) u e = absurd (no_zero why (ap (λ (a : Answer). a.number) e))

-- a refusal leaves the bytes
pub write_refused : (m : ℕ) (x : Refused) (words old : List ℕ) → answer (λ rs. m) (draft_of m words) ≡ parts (Err x)
    → (parts (Err x) ≡ write_answer m words (length old)) × (old ≡ bytes_after m words old)
unfolding writing
write_refused m x words old e = let t = told_err (λ rs. m) (draft_of m words) x (sym e) in rw t.0 (ap (λ (y : Refused). parts (Err y)) t.1, refl)

-- bytes in front of others
pub front_below : (front rest : List ℕ) → ((k : ℕ) → get_or (front ++ rest) k 0 < 256) → (k : ℕ) → get_or front k 0 < 256
front_below [] rest h k = omega arith
front_below (x ∷ xs) rest h zero = h zero
front_below (x ∷ xs) rest h (suc k) = front_below xs rest (λ j. h (suc j)) k

module _ (m size : ℕ) (words old : List ℕ) (ok : answer (λ rs. m) (draft_of m words) ≡ success m) (is : size ≡ byte_count (count_width + length (rows_bits (split m words)))) where
  bytes_size : length (packed (split m words)) ≡ size
  bytes_size = packed_length m words ∙ sym is

  -- too few bytes
  pub write_full : length old < size
      → (refusal NoRoom 0 ≡ write_answer m words (length old)) × (old ≡ bytes_after m words old)
  unfolding writing
  write_full h =
      rw ((table_good m words ok).1, lt-leb (length (packed (split m words))) (length old) (omega (arith, bytes_size))) (refl, refl)

  -- room for all bytes, which are put into the first ones
  pub write_done : (front new : List ℕ) → size ≤ length old → ((k : ℕ) → get_or front k 0 < 256) → Begun (length (take size old)) (table_bits m words) (take size old) front
      → new ≡ front ++ drop size old → (success size ≡ write_answer m words (length old)) × (new ≡ bytes_after m words old)
  unfolding writing
  write_done front new h below b e =
      let n : size ≡ byte_count (length (table_bits m words)) = is ∙ ap byte_count (sym (table_length m words)) in
      let l : length (take size old) ≡ byte_count (length (table_bits m words)) = length-take-le size old h ∙ n in
      let none : drop (byte_count (length (table_bits m words))) (take size old) ≡ [] = drop_of_length-le (take size old) {i = byte_count (length (table_bits m words))} (omega (arith, l)) in
      let f : front ≡ bytes (table_bits m words) =
      begun_bytes (table_bits m words) front (take size old) below (omega (arith, l, b.size_kept))
      (subst (λ (k : ℕ). Begun k (table_bits m words) (take size old) front) l b)
      ∙ ap (λ (x : List ℕ). bytes (table_bits m words) ++ x) none ∙ append-nil (bytes (table_bits m words)) in
      let t : new ≡ packed (split m words) ++ drop (length (packed (split m words))) old =
      e ∙ ap₂ (λ (a : List ℕ) (k : ℕ). a ++ drop k old) (f ∙ sym (packed_split m words)) (sym bytes_size) in
      rw ((table_good m words ok).1, le-leb (length (packed (split m words))) (length old) (omega (arith, bytes_size))) (ap success (sym bytes_size), t)

pub ready : (m : ℕ) (words : List ℕ) → answer (λ rs. m) (draft_of m words) ≡ success m → Ready m words
unfolding table_by
ready m words ok =
    let t = table_good m words ok in
    let d = made_by false m words t.0 t.1 in
    let r = unless_good (count_fits m && eqb (length words) (row_size * m)) BadCount 0 (rows_from false m 0 (split m words)) t.0 t.1 in
    record { few = d.few; words_size = d.words_size; accepted = rw r.1 }
