-- The text of the words that the check left is the text of the clocks, and how long it is. Assumes nothing.
use mathlib.Core.Path.{◌≡◌, refl, sym, ◌∙◌, ap, ap₂}
use Prim.Native.Nat.{ℕ, zero, suc, ◌+◌, ◌*◌, ◌/◌, ◌%◌, ◌≤◌, ◌<◌}
use native.Mathlib.Omega.{arith}
use mathlib.Core.Bool.{Bool, true, false}
use mathlib.Core.List.{List, [], ◌∷◌, ◌++◌, append-nil, append_assoc}
use lib.ListN.{length, drop, length-append}
use lib.Seq.{drop-append_seam}
use lib.Dec.{eqb, leb, eqb-suc-zero}
use borrow.Author.Tests.{le-leb, lt-leb}
use Rattle.text.specs.Text.{line_feed, space, decimal, Wrote}
use Rattle.text.proofs.Decimal.{digits_fit}
use Rattle.text.proofs.Writing.{whole_text}
use Rattle.std.specs.Prelude.{Ok, Err}
use Rattle.table.specs.declared.refusal.Refused.{Refused}
use Rattle.table.specs.declared.refusal.Refusal.{Refusal}
use Rattle.table.specs.declared.refusal.Refusal.TheVariants.{NoRoom}
use Rattle.table.specs.Answers.{good, refused, number, success, refusal, parts, over, leaves}
use Rattle.table.specs.Bits.{bit}
use Rattle.table.specs.Rows.{max_flows, max_field}
use Rattle.table.proofs.AnswerLaws.{told_ok, told_err}
use Rattle.checker.specs.Rules.{max_conditions, Every, Below, Direct, FirstViewed, Within, AllWithin}
use Rattle.checker.specs.Clocks.{Condition, Clock}
use Rattle.checker.specs.Answers.{clock_size, condition_word, four_words, clock_words, clocks_words}
use Rattle.checker.proofs.RuleLaws.{limits}
use Rattle.checker.proofs.Agree.{few}
use Rattle.checker.proofs.WordLaws.{view_of, clock_words_lem}
use Rattle.lister.specs.Listing.{letter_c, sign, view_text, field, okay, condition_text, conditions_from, conditions_text, line_text, lines_from, ok_text, refusal_text}
use Rattle.lister.specs.Listing.{checked, listing_of, longest_time, longest_view, longest_line, longest, listing, listing_answer, text_after}
use Rattle.lister.specs.Private.Words.{word_text, words_text, counted_text, clock_text, clocks_text, table_text}
use Rattle.packed_check.specs.Checked.{checked_in, packed_answer, packed_after}
use Rattle.lister.proofs.Joined.{checked_in_all, checked_clocks}

word_condition : (c : Condition) → word_text (condition_word c) c.view ≡ condition_text c
unfolding word_text condition_text
word_condition c = go c.flow c.truth (view_text c.view)
  where
    go : (f : ℕ) (t : Bool) (v : List ℕ) → letter_c ∷ (decimal ((2 * f + bit t) / 2) ++ (sign (eqb ((2 * f + bit t) % 2) 1) ∷ v)) ≡ letter_c ∷ (decimal f ++ (sign t ∷ v))
    go f true v =
        let p : (2 * f + 1) / 2 ≡ f = omega arith in
        let q : (2 * f + 1) % 2 ≡ 1 = omega arith in
        rw (p, q)
    go f false v =
        let p : (2 * f + 0) / 2 ≡ f = omega arith in
        let q : (2 * f + 0) % 2 ≡ 0 = omega arith in
        rw (p, q)

-- the words of conditions in a clock, unused ones too, their view periods, and what stands after them
counted_text_lem : (cs : List Condition) (rest : List ℕ) → length cs ≤ max_conditions
    → counted_text (length cs) ((four_words condition_word cs ++ four_words view_of cs) ++ rest) ≡ conditions_text cs
unfolding counted_text words_text conditions_from
counted_text_lem [] rest l = refl
counted_text_lem (a ∷ []) rest l = rw (word_condition a) (sym (append-nil (condition_text a)))
counted_text_lem (a ∷ b ∷ []) rest l = rw (word_condition a, word_condition b) (simp append-nil)
counted_text_lem (a ∷ b ∷ c ∷ []) rest l = rw (word_condition a, word_condition b, word_condition c) (simp (append-nil, append_assoc))
counted_text_lem (a ∷ b ∷ c ∷ d ∷ []) rest l = rw (word_condition a, word_condition b, word_condition c, word_condition d) (simp (append-nil, append_assoc))
counted_text_lem (a ∷ b ∷ c ∷ d ∷ e ∷ cs) rest l = absurd (omega arith)

clock_line : (f : ℕ) (k : Clock) (rest : List ℕ) → length k.conditions ≤ max_conditions → clock_text f (clock_words k ++ rest) ≡ line_text f k
unfolding clock_text line_text
clock_line f k rest l =
    ap (λ (w : List ℕ). field f ++ (field k.period ++ (field k.phase ++ (w ++ (line_feed ∷ []))))) (counted_text_lem k.conditions rest l)

clocks_lines : (f : ℕ) (ks : List Clock) (rest : List ℕ) → AllWithin ks → clocks_text (length ks) f (clocks_words ks ++ rest) ≡ lines_from f ks
unfolding clocks_text lines_from clocks_words
clocks_lines f [] rest h = refl
clocks_lines f (k ∷ ks) rest h =
    ap (λ (w : List ℕ). clock_text f w ++ clocks_text (length ks) (suc f) (drop clock_size w)) (append_assoc (clock_words k) (clocks_words ks) rest)
    ∙ ap₂ ◌++◌ (clock_line f k (clocks_words ks ++ rest) (few k (h 0 (omega arith))))
    (ap (clocks_text (length ks) (suc f)) (after k (clocks_words ks ++ rest)) ∙ clocks_lines (suc f) ks rest (λ (g : ℕ). λ (l : g < length ks). h (suc g) (omega arith)))
  where
    after : (k : Clock) (rest : List ℕ) → drop clock_size (clock_words k ++ rest) ≡ rest
    after k rest = ap (λ (n : ℕ). drop n (clock_words k ++ rest)) (sym (clock_words_lem k)) ∙ drop-append_seam (clock_words k) rest

table_text_lem : (ks : List Clock) (rest : List ℕ) → AllWithin ks → table_text (length ks) (clocks_words ks ++ rest) ≡ ok_text ks
unfolding table_text ok_text
table_text_lem ks rest h = ap (λ (w : List ℕ). okay ++ (decimal (length ks) ++ (line_feed ∷ w))) (clocks_lines 0 ks rest h)

-- ---- lengths

view_length : (w : ℕ) → w ≤ max_field → length (view_text w) ≤ longest_view
unfolding view_text
view_length zero l = omega arith
view_length (suc w) l = rw (eqb-suc-zero w) (omega (arith, digits_fit 3 (suc w) (omega arith)))

no_view : (w : ℕ) → w ≡ 0 → length (view_text w) ≡ 0
unfolding view_text
no_view w e = rw e

condition_length : (c : Condition) → c.flow < max_flows → length (condition_text c) ≤ 4 + length (view_text c.view)
unfolding condition_text
condition_length c l = omega (arith, digits_fit 1 c.flow (omega arith), length-append (decimal c.flow) (sign c.truth ∷ view_text c.view))

conditions_length : (cs : List Condition) → Below max_flows cs → Every Direct cs → length (conditions_from cs) ≤ 4 * length cs
unfolding conditions_from
conditions_length [] h v = omega arith
conditions_length (c ∷ cs) h v =
    omega (arith, condition_length c h.0, no_view c.view v.0, conditions_length cs h.1 v.1, length-append (condition_text c) (conditions_from cs))

conditions_short : (cs : List Condition) → length cs ≤ max_conditions → Below max_flows cs → FirstViewed cs → length (conditions_text cs) ≤ 4 * max_conditions + longest_view
unfolding conditions_from
conditions_short [] l h v = omega arith
conditions_short (c ∷ cs) l h v =
    omega (arith, condition_length c h.0, view_length c.view v.0, conditions_length cs h.1 v.1, length-append (condition_text c) (conditions_from cs))

field_length : (n j : ℕ) → length (decimal n) ≤ j → length (field n) ≤ j + 1
field_length n j h = omega (arith, length-append (decimal n) (space ∷ []))

line_length : (f : ℕ) (k : Clock) → f < max_flows → Within k → length (line_text f k) ≤ longest_line
unfolding line_text
line_length f k l w =
    let fit = limits k w.0 in
    let t : List ℕ = conditions_text k.conditions ++ (line_feed ∷ []) in
    omega (
      arith,
      field_length f 2 (digits_fit 1 f (omega arith)),
      field_length k.period longest_time (digits_fit 4 k.period (omega (arith, fit.period_fits))),
      field_length k.phase longest_time (digits_fit 4 k.phase (omega (arith, fit.phase_fits))),
      conditions_short k.conditions (few k w) w.1 w.2,
      length-append (field f) (field k.period ++ (field k.phase ++ t)),
      length-append (field k.period) (field k.phase ++ t),
      length-append (field k.phase) t,
      length-append (conditions_text k.conditions) (line_feed ∷ []),
    )

lines_length : (f : ℕ) (ks : List Clock) → f + length ks ≤ max_flows → AllWithin ks → length (lines_from f ks) ≤ longest_line * length ks
unfolding lines_from
lines_length f [] l h = omega arith
lines_length f (k ∷ ks) l h =
    omega (
      arith,
      line_length f k (omega arith) (h 0 (omega arith)),
      lines_length (suc f) ks (omega arith) (λ (g : ℕ). λ (i : g < length ks). h (suc g) (omega arith)),
      length-append (line_text f k) (lines_from (suc f) ks),
    )

ok_length : (ks : List Clock) → length ks ≤ max_flows → AllWithin ks → length (ok_text ks) ≤ longest
unfolding ok_text
ok_length ks l h =
    omega (arith, digits_fit 1 (length ks) (omega arith), lines_length 0 ks (omega arith) h, length-append (decimal (length ks)) (line_feed ∷ lines_from 0 ks))

-- ---- the listing

listing_refused : (bs : List ℕ) (why : Refusal) (f : ℕ) → checked bs ≡ refused why f → refusal_text (number why) f ≡ listing_of bs
unfolding listing_of
listing_refused bs why f e = rw e

listing_good : (bs : List ℕ) (ks : List Clock) → checked bs ≡ good ks → ok_text ks ≡ listing_of bs
unfolding listing_of
listing_good bs ks e = rw e

-- what the answer to reading and the check says of the listing
module _ (bs : List ℕ) where
  pub refusal_listed : (x : Refused) → parts (Err x) ≡ packed_answer bs (clock_size * max_flows) → refusal_text (number x.why) x.flow ≡ listing_of bs
  refusal_listed x told =
      listing_refused bs x.why x.flow (sym (checked_in_all bs) ∙ (told_err length (checked_in bs (clock_size * max_flows)) x told).0)

  pub table_listed : (n : ℕ) (zeros clocks : List ℕ) → parts (Ok n) ≡ packed_answer bs (clock_size * max_flows) → length zeros ≡ clock_size * max_flows
      → clocks ≡ packed_after bs zeros → (n ≤ max_flows) × (length (table_text n clocks) ≤ longest) × (table_text n clocks ≡ listing_of bs)
  table_listed n zeros clocks told r l =
      let z = told_ok length (checked_in bs (clock_size * max_flows)) n told in
      let ks = z.0 in
      let e : checked bs ≡ good ks = sym (checked_in_all bs) ∙ z.1.0 in
      let b = checked_clocks bs ks e in
      let w : clocks ≡ over (clocks_words ks) zeros = l ∙ ap (λ x. leaves clocks_words x zeros) (ap (checked_in bs) r ∙ z.1.0) in
      let t : table_text n clocks ≡ ok_text ks = ap₂ table_text z.1.1 w ∙ table_text_lem ks (drop (length (clocks_words ks)) zeros) b.1 in
      (omega (arith, b.0, z.1.1), omega (arith, ap length t, ok_length ks b.0 b.1), t ∙ listing_good bs ks e)

pub no_room_lem : (bs old : List ℕ) → length old < longest → (refusal NoRoom 0 ≡ listing_answer bs (length old)) × (old ≡ text_after bs old)
unfolding listing
no_room_lem bs old h = let e : leb longest (length old) ≡ false = lt-leb longest (length old) h in (rw e, rw e)

-- a listing that was written into a text with room for the longest
pub all_room : (bs : List ℕ) {old new bytes : List ℕ} {size : ℕ} → longest ≤ length old → length bytes ≤ longest → bytes ≡ listing_of bs → Wrote 0 bytes old size new
    → (success size ≡ listing_answer bs (length old)) × (new ≡ text_after bs old)
unfolding listing
all_room bs {old} {new} {bytes} {size} h s e w =
    let l : leb longest (length old) ≡ true = le-leb longest (length old) h in
    let v = whole_text (omega arith) w in
    let x : size ≡ length (listing_of bs) = v.0 ∙ ap length e in
    let y : new ≡ over (listing_of bs) old = v.1 ∙ ap (λ (b : List ℕ). over b old) e in
    (rw l (ap success x), rw l y)
