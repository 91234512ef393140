-- What the call answers and leaves, by what its parts have found. Assumes nothing.
use mathlib.Core.Path.{◌≡◌, refl, sym, ◌∙◌, ap}
use Prim.Native.Nat.{ℕ, ◌*◌, ◌≤◌, ◌<◌}
use mathlib.Core.Bool.{Bool, true, false, false≢true}
use mathlib.Core.List.{List}
use lib.Dec.{eqb}
use lib.ListN.{length, take}
use lib.Seq.{take_at}
use borrow.Author.Tests.{eqb-true, eq-eqb, le-leb}
use Rattle.std.specs.Prelude.{Option, Err}
use Rattle.table.specs.declared.refusal.Refused.{Refused}
use Rattle.table.specs.declared.refusal.Refusal.TheVariants.{ClocksDiffer, NoRoom, Unjoined}
use Rattle.table.specs.Answers.{good, refused, answer, refusal, success, parts, over}
use Rattle.table.specs.Rows.{Row, row_size}
use Rattle.table.specs.Plain.{joined, draft_of, draft_answer, copied}
use Rattle.table.proofs.AnswerLaws.{told_err}
use Rattle.table.proofs.PlainRows.{length_joined}
use Rattle.checker.specs.Answers.{check_number}
use Rattle.rates.specs.Joins.{Chained, Joined}
use Rattle.rates.specs.declared.steps.Rate.{Rate}
use Rattle.rates.specs.Fillings.{filled, Accepted, bad_draft, no_chain, none_accepted, without_room, accepted, Filled}
use Rattle.rates.specs.Private.Spread.{rates_in, Known, Settled, LowestUnknown}
use Rattle.rates.proofs.Spreading.{derived_chained, all_known, spread_accepted}
use Rattle.rates.proofs.Given.{filled_count}

-- what is said of the filled rows in a buffer, by whether the check accepts them
pub record Said (m : ℕ) (words old buffer : List ℕ) (t : Bool) : Type 0 where
  pub none : t ≡ false → Filled m words old (refusal ClocksDiffer 0) old
  pub room : t ≡ true → length old < row_size * m → Filled m words old (refusal NoRoom 0) old
  pub whole : t ≡ true → row_size * m ≤ length buffer → row_size * m ≤ length old → (left : List ℕ) → left ≡ copied (row_size * m) buffer old → Filled m words old (success m) left

module _ (m : ℕ) (words old : List ℕ) where
  pub said_draft : (x : Refused) → parts (Err x) ≡ draft_answer m words → Filled m words old (parts (Err x)) old
  said_draft x e =
      let o = told_err length (draft_of m words) x e in
      record { outcome = refused x.why x.flow; comes = bad_draft x.why x.flow o.0; answered = e ∙ ap (answer length) o.0; stored = refl }

  module _ (rows : List Row) (draft : draft_of m words ≡ good rows) (st : List (Option Rate)) (s : Settled m words st) where
    chained_flow : (f : ℕ) → Known st f → Chained m words f
    chained_flow f k = derived_chained m words f k.0 (s.spread f k.0 k.1)

    pub said_unjoined : (f : ℕ) → LowestUnknown m st f → Filled m words old (refusal Unjoined f) old
    said_unjoined f h = record {
      outcome = refused Unjoined f;
      comes = no_chain rows f draft h.within (λ c. let k : Known st f = all_known m words rows draft st s f h.within c in let u = h.there in let v = k.1 in absurd (cc))
          (λ g l. chained_flow g (h.below g l));
      answered = refl;
      stored = refl;
    }

    module _ (h : (f : ℕ) → f < m → Known st f) where
      chained : Joined m words
      chained = record { rows = rows; draft = draft; chains = λ f l. chained_flow f (h f l) }

      -- the filled rows stand in a buffer
      module _ (buffer zeros : List ℕ) (is : buffer ≡ over (joined (filled m words (rates_in st))) zeros) where
        size : length (joined (filled m words (rates_in st))) ≡ row_size * m
        size = length_joined (filled m words (rates_in st)) ∙ ap (λ (n : ℕ). row_size * n) (filled_count m words (rates_in st))

        held : take (row_size * m) buffer ≡ joined (filled m words (rates_in st))
        held = ap (take (row_size * m)) is ∙ take_at (joined (filled m words (rates_in st))) _ (row_size * m) size

        -- and the check has judged them
        module _ (t : Bool) (told : t ≡ eqb (check_number m (take (row_size * m) buffer)) 0) where
          judges : t ≡ eqb (check_number m (joined (filled m words (rates_in st)))) 0
          judges = told ∙ ap (λ (ws : List ℕ). eqb (check_number m ws) 0) held

          passes : t ≡ true → Accepted m words (rates_in st)
          passes y = eqb-true _ 0 (sym judges ∙ y)

          pub said : Said m words old buffer t
          unfolding chained
          said = record {
            none = λ n. record {
              outcome = refused ClocksDiffer 0;
              comes = none_accepted chained (λ rates a. false≢true (sym n ∙ judges ∙ eq-eqb _ 0 (spread_accepted m words rows draft st s chained.chains rates a)));
              answered = refl;
              stored = refl;
            };
            room = λ y l. record { outcome = refused NoRoom 0; comes = without_room (rates_in st) chained (passes y) l; answered = refl; stored = refl };
            whole = λ y lb l left c. record {
              outcome = good (filled m words (rates_in st));
              comes = accepted (rates_in st) chained (passes y) l;
              answered = ap success (sym (filled_count m words (rates_in st)));
              stored = c ∙ rw (le-leb (row_size * m) (length buffer) lb, le-leb (row_size * m) (length old) l, held, size);
            };
          }
