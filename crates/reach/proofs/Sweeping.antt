-- The sets of the flows, filled cell by cell: those that each row names, and then each joined with that of flow k. Assumes nothing.
use mathlib.Core.Path.{◌≡◌, refl, sym, ◌∙◌, ap₂}
use Prim.Native.Nat.{ℕ, ◌+◌, ◌≤◌, ◌<◌}
use native.Mathlib.Numerals.{add-one}
use native.Mathlib.Omega.{arith}
use mathlib.Core.Bool.{Bool, true, false, cond, ◌&&◌, ◌||◌}
use mathlib.Core.List.{List}
use lib.Bits.{bit_or}
use lib.Dec.{eqb}
use lib.ListN.{length, set}
use lib.Seq.{ext_get_or}
use borrow.Author.Tests.{lt-ltb}
use Rattle.table.specs.Rows.{Kind, kind_at, Words, max_flows}
use Rattle.table.specs.Plain.{row_words, table_of, rows_in}
use Rattle.table.specs.Links.{is_flow, field_names, names}
use Rattle.table.proofs.Tests.{or_false}
use Rattle.table.proofs.Tables.{table_made}
use Rattle.table.proofs.Linked.{first_named, second_named, third_named}
use Rattle.reach.specs.Sets.{Flows, set_of, with_flow}
use Rattle.reach.specs.Reach.{named, through, sets_of}
use Rattle.reach.specs.Private.Steps.{IsTable, named_set, absorbed, Reached, Swept}
use Rattle.reach.proofs.Closing.{named_inside}
use Rattle.reach.proofs.SetBits.{set_same, set_none, set_one, set_or, set_has}
use Rattle.reach.proofs.SetLists.{sets_length, sets_entry}

-- ---- the flows that a row names

-- no flow more, and one
none_more : (s : Flows) (n : ℕ) → set_of s n ≡ set_of (λ g. s g || false) n
none_more s n = set_same s (λ g. s g || false) n (λ g l. sym (or_false (s g)))

one_more : (n : ℕ) → n ≤ max_flows → (s : Flows) (set : ℕ) → set ≡ set_of s n → (on : Bool) (x : ℕ) → (on ≡ true → x < n)
    → with_flow set on x ≡ set_of (λ g. s g || (on && eqb x g)) n
one_more n few s set e true x l =
    let z : x < n = l refl in
    rw (lt-ltb x max_flows (omega arith)) (ap₂ bit_or e (sym (set_one x n z)) ∙ set_or s (eqb x) n)
one_more n few s set e false x l = e ∙ none_more s n

regroup : (a b c d : Bool) → (((a || b) || c) || d) ≡ (a || (b || (c || d)))
regroup true b c d = refl
regroup false true c d = refl
regroup false false c d = refl

named_set_lem : (n f : ℕ) (w : Words) → n ≤ max_flows → f < n → ((x : ℕ) → names w x ≡ true → x < n) → named_set f w ≡ set_of (λ g. eqb f g || names w g) n
unfolding named_set names
named_set_lem n f w few l inside =
    let k : Kind = kind_at w.kind in
    let own = one_more n few (λ g. false) 0 (sym (set_none (λ g. false) n (λ g z. refl))) true f (λ e. l) in
    let one = one_more n few (eqb f) _ own (is_flow k.one) w.one (λ e. inside w.one (first_named w e)) in
    let two = one_more n few (λ g. eqb f g || field_names k.one w.one g) _ one (is_flow k.two) w.two (λ e. inside w.two (second_named w e)) in
    one_more n few (λ g. (eqb f g || field_names k.one w.one g) || field_names k.two w.two g) _ two (is_flow k.three) w.three
    (λ e. inside w.three (third_named w e))
    ∙ set_same _ _ n (λ g z. regroup (eqb f g) _ _ _)

-- ---- one set joined with another

absorbed_set : (s t : Flows) (n k : ℕ) → n ≤ max_flows → k < n → absorbed (set_of s n) (set_of t n) k ≡ set_of (λ g. s g || (s k && t g)) n
absorbed_set s t n k few l = rw (set_has s n k few l) (go (s k))
  where
    go : (b : Bool) → cond b (bit_or (set_of s n) (set_of t n)) (set_of s n) ≡ set_of (λ g. s g || (b && t g)) n
    go true = set_or s t n
    go false = none_more s n

-- ---- what the sets are

pub reached_first : (words : List ℕ) (n f : ℕ) → IsTable n words → f < n → named_set f (row_words words f) ≡ set_of (through (named words) 0 f) n
unfolding through
reached_first words n f e l =
    let rows = rows_in (table_of n words) in
    let t = table_made n words rows e in
    named_set_lem n f (row_words words f) t.few l (λ x z. named_inside n words rows t f x l z) ∙ set_same _ _ n (λ g z. refl)

pub reached_next : (words : List ℕ) (n k : ℕ) (old new : List ℕ) → n ≤ max_flows → k < n → n ≤ length old → Reached words n k old → Swept k old new → Reached words n (k + 1) new
unfolding through
reached_next words n k old new few l room r s =
    rw (add-one k) λ f x.
    s f (omega (arith, room)) ∙ ap₂ (λ (a b : ℕ). absorbed a b k) (r f x) (r k l)
    ∙ absorbed_set (through (named words) k f) (through (named words) k k) n k few l
    ∙ set_same _ _ n (λ g z. refl)

-- ---- after the sweeps of all flows

pub reached_all : (words : List ℕ) (n : ℕ) (sets : List ℕ) → length sets ≡ n → Reached words n n sets → sets ≡ sets_of n words n
reached_all words n sets size r =
    ext_get_or 0 sets (sets_of n words n) (size ∙ sym (sets_length n words n)) λ i l.
    let x : i < n = omega (arith, size) in r i x ∙ sym (sets_entry n words i x)
