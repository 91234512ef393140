-- What an answer's number says of the work behind it. Assumes nothing.
use mathlib.Core.Path.{◌≡◌, refl, sym, ◌∙◌, ap, ap₂}
use mathlib.Core.Bool.{cond}
use lib.Dec.{eqb}
use Prim.Native.Nat.{ℕ, suc, ◌+◌, ◌-◌, ◌≤◌, ◌<◌}
use native.Mathlib.Numerals.{add-one}
use native.Mathlib.Omega.{arith}
use mathlib.Core.List.{List, [], ◌∷◌, ◌++◌}
use lib.ListN.{length, get_or, set, drop, length-append}
use lib.Seq.{drop-cons, drop_at, set_at, append_snoc, get_or-append-add, get_or-drop}
use Rattle.table.specs.declared.refusal.Refusal.{Refusal}
use Rattle.table.specs.declared.refusal.Refusal.TheVariants.{NoRoom, BadCount, CutShort, UnknownKind, OutOfRange, Misplaced, BadFilling, ClocksDiffer}
use Rattle.table.specs.declared.refusal.Refusal.TheVariants.{BeyondLimits, NotPlain, TooManyTicks, WrongLog, ShortTrace, Clash, ShortWindow, WrongTimes, ShortPage, NotDiffering, Unjoined, BadView}
use Rattle.table.specs.declared.refusal.Refusal.TheVariants.{HasConditions, WrongLength, OffCalendar}
use Rattle.std.specs.Prelude.{Ok, Err}
use Rattle.table.specs.declared.Answer.{Answer}
use Rattle.table.specs.declared.refusal.Refused.{Refused}
use Rattle.table.specs.Answers.{number, Result, good, refused, refusal, named, parts, over, answer, leaves}

-- no refusal has the number 0
pub no_zero : (why : Refusal) → number why ≡ 0 → ⊥
no_zero NoRoom e = omega arith
no_zero BadCount e = omega arith
no_zero CutShort e = omega arith
no_zero UnknownKind e = omega arith
no_zero OutOfRange e = omega arith
no_zero Misplaced e = omega arith
no_zero BadFilling e = omega arith
no_zero ClocksDiffer e = omega arith
no_zero BeyondLimits e = omega arith
no_zero NotPlain e = omega arith
no_zero TooManyTicks e = omega arith
no_zero WrongLog e = omega arith
no_zero ShortTrace e = omega arith
no_zero Clash e = omega arith
no_zero ShortWindow e = omega arith
no_zero WrongTimes e = omega arith
no_zero ShortPage e = omega arith
no_zero NotDiffering e = omega arith
no_zero Unjoined e = omega arith
no_zero BadView e = omega arith
no_zero HasConditions e = omega arith
no_zero WrongLength e = omega arith
no_zero OffCalendar e = omega arith

-- an answer with number 0 has a result behind it
pub answer_zero : {A : Type 0} (size : A → ℕ) (r : Result A) → (answer size r).number ≡ 0 → (a : A) × (r ≡ good a)
answer_zero size (good a) e = (a, refl)
answer_zero size (refused why f) e = absurd (no_zero why e)

-- an answer with another number has a refusal behind it
pub answer_other : {A : Type 0} (size : A → ℕ) (r : Result A) → ((answer size r).number ≡ 0 → ⊥) → (why : Refusal) × (f : ℕ) × (r ≡ refused why f)
answer_other size (good a) e = absurd (e refl)
answer_other size (refused why f) e = (why, f, refl)

-- a refusal is answered as it is, and leaves the buffer
pub refused_leaves : {A : Type 0} (size : A → ℕ) (cells : A → List ℕ) (r : Result A) (old : List ℕ) (why : Refusal) (f : ℕ) → r ≡ refused why f
    → (refusal why f ≡ answer size r) × (old ≡ leaves cells r old)
refused_leaves size cells r old why f e = (rw e, rw e)

-- a cell more from the first on
pub set_over : (xs ys : List ℕ) (f a : ℕ) → length xs ≡ f → f < length ys → set (over xs ys) f a ≡ over (xs ++ (a ∷ [])) ys
set_over xs ys f a e h =
    let h' : length xs < length ys = omega arith in
    ap (λ (l : List ℕ). set (xs ++ l) f a) (drop-cons ys (length xs) 0 h')
    ∙ set_at xs (get_or ys (length xs) 0) (drop (suc (length xs)) ys) a f e
    ∙ sym (append_snoc xs a (drop (suc (length xs)) ys))
    ∙ ap (λ (k : ℕ). xs ++ (a ∷ []) ++ drop k ys) (sym (add-one (length xs)) ∙ sym (length-append xs (a ∷ [])))

-- the cells behind them are left
pub over_behind : (xs old : List ℕ) (i : ℕ) → length xs ≤ i → get_or (over xs old) i 0 ≡ get_or old i 0
over_behind xs old i l =
    let e : i ≡ length xs + (i - length xs) = omega arith in
    ap (λ (j : ℕ). get_or (over xs old) j 0) e ∙ get_or-append-add xs (drop (length xs) old) (i - length xs) 0
    ∙ get_or-drop (length xs) old (i - length xs) 0 ∙ ap (λ (j : ℕ). get_or old j 0) (sym e)

-- as many cells once more over the same
pub over_again : (xs ys old : List ℕ) → length xs ≡ length ys → over xs (over ys old) ≡ over xs old
over_again xs ys old e = ap (λ (l : List ℕ). xs ++ l) (drop_at ys (drop (length ys) old) (length xs) (sym e) ∙ ap (λ (i : ℕ). drop i old) (sym e))

-- the cause of a number
cause : ℕ → Refusal
cause n =
    cond (eqb n 10) NoRoom (
    cond (eqb n 11) BadCount (
    cond (eqb n 12) CutShort (
    cond (eqb n 13) UnknownKind (
    cond (eqb n 14) OutOfRange (
    cond (eqb n 15) Misplaced (
    cond (eqb n 16) BadFilling (
    cond (eqb n 21) ClocksDiffer (
    cond (eqb n 22) BeyondLimits (
    cond (eqb n 23) NotPlain (
    cond (eqb n 40) BadView (
    cond (eqb n 31) TooManyTicks (
    cond (eqb n 32) WrongLog (
    cond (eqb n 33) ShortTrace (
    cond (eqb n 34) Clash (
    cond (eqb n 35) ShortWindow (
    cond (eqb n 36) WrongTimes (
    cond (eqb n 37) ShortPage (
    cond (eqb n 38) NotDiffering (
    cond (eqb n 39) Unjoined (
    cond (eqb n 41) HasConditions (
    cond (eqb n 42) WrongLength (
    OffCalendar))))))))))))))))))))))

cause_is : (why : Refusal) → cause (number why) ≡ why
unfolding cause
cause_is NoRoom = refl
cause_is BadCount = refl
cause_is CutShort = refl
cause_is UnknownKind = refl
cause_is OutOfRange = refl
cause_is Misplaced = refl
cause_is BadFilling = refl
cause_is ClocksDiffer = refl
cause_is BeyondLimits = refl
cause_is NotPlain = refl
cause_is BadView = refl
cause_is TooManyTicks = refl
cause_is WrongLog = refl
cause_is ShortTrace = refl
cause_is Clash = refl
cause_is ShortWindow = refl
cause_is WrongTimes = refl
cause_is ShortPage = refl
cause_is NotDiffering = refl
cause_is Unjoined = refl
cause_is HasConditions = refl
cause_is WrongLength = refl
cause_is OffCalendar = refl

-- a number is that of one cause
pub number_inj : (why other : Refusal) → number why ≡ number other → why ≡ other
number_inj why other e = sym (cause_is why) ∙ ap cause e ∙ cause_is other

-- ---- what an answer in parts tells of the work behind it

module _ {A : Type 0} (size : A → ℕ) where
  -- a count: a result of that size
  pub told_ok : (r : Result A) (n : ℕ) → parts (Ok n) ≡ answer size r → (a : A) × ((r ≡ good a) × (n ≡ size a))
  told_ok (good a) n e = (a, (refl, ap (λ (x : Answer). x.count) e))
  told_ok (refused why f) n e = absurd (no_zero why (sym (ap (λ (x : Answer). x.number) e)))

  -- a refusal: the same, and no tick
  pub told_err : (r : Result A) (x : Refused) → parts (Err x) ≡ answer size r → (r ≡ refused x.why x.flow) × (x ≡ named x.why x.flow)
  told_err (good a) x e = absurd (no_zero x.why (ap (λ (y : Answer). y.number) e))
  told_err (refused why f) x e =
      let w : why ≡ x.why = number_inj why x.why (sym (ap (λ (y : Answer). y.number) e)) in
      let g : f ≡ x.flow = sym (ap (λ (y : Answer). y.flow) e) in
      let t : x.tick ≡ 0 = ap (λ (y : Answer). y.tick) e in
      (ap₂ refused w g, ap (λ (n : ℕ). record { why = x.why; flow = x.flow; tick = n }) t)

  -- it leaves the buffer
  pub err_leaves : (cells : A → List ℕ) (r : Result A) (x : Refused) (old : List ℕ) → parts (Err x) ≡ answer size r → old ≡ leaves cells r old
  err_leaves cells r x old e = rw (told_err r x e).0
