-- A row's step from its words is its step from the ticks so far, and its words then say the same of one tick more. Assumes nothing.
use Rattle.std.proofs.Common.{◌≡◌, ℕ, zero, suc, ◌+◌, ◌-◌, ◌*◌, ◌%◌, ◌<◌, eqb, List, ◌∷◌, length, get_or, take, sym, refl, ap, ◌∙◌, subst, arith, ne_eqb}
use Rattle.table.specs.Rows.{Row, input, constant, combine, register, faster, slower, later, head, tail, sample, merge, unrated, view}
use Rattle.table.specs.Tables.{Fits}
use Rattle.semantics.specs.Cells.{Cell, absent, present, mark, History, back, count, latest}
use Rattle.semantics.specs.Operators.{is, timed, registered, faster_of, later_of, head_of, value_or, viewed}
use Rattle.semantics.specs.Runs.{Tick, Ticks, cell_in, history, inputs, cell_of}
use Rattle.semantics.proofs.Traces.{history_length}
use Rattle.runner.specs.declared.carried.Held.{Held}
use Rattle.runner.specs.Private.Carried.{cell_at, register_step, faster_step, faster_next, later_step, head_step, head_next, status, view_step, view_next, step_of, next_of}
use Rattle.runner.specs.Private.Ready.{Copies, Heads, Views, Carries, Collected, Follows}
use Rattle.runner.proofs.Copies.{faster_steps, faster_follows}
use Rattle.runner.proofs.Views.{view_steps, view_follows}
use Rattle.runner.proofs.Histories.{timed_steps, timed_follows, timed_keeps, slower_steps, slower_follows, tail_steps, tail_follows, head_steps, head_follows}

registers : (v : ℕ) (b : Cell) (h : History) (w : Held) → w.x ≡ value_or v (latest h) → register_step b w ≡ is (registered v b h)
unfolding registered
registers v absent h w e = refl
registers v (present b) h w e = ap (λ (x : ℕ). is (present x)) e

laters : (d : ℕ) (a : Cell) (h : History) (w : Held) → (0 < d → cell_at w.x w.y ≡ back h (d - 1)) → later_step a d w ≡ is (later_of d a h)
unfolding later_of
laters zero a h w e = refl
laters (suc d) a h w e =
    rw (ne_eqb (suc d) 0 (λ z. omega arith)) (ap is (e (omega arith) ∙ ap (back h) (let z : suc d - 1 ≡ d = omega arith in z)))

module _ (m f : ℕ) (rows : List Row) (log : List ℕ) (past : Ticks) (now : Tick) (w : Held) (at : ℕ) where
  pub row_steps : (row : Row) → Fits m f row → Carries rows f row (length past) (history past) w → Collected row (history past) w → at ≡ length past * inputs rows → length now ≡ f
      → step_of row (length past) log at (cell_in now) w ≡ cell_of rows log past now row
  unfolding step_of cell_of Carries
  row_steps (input n p) l c o e s =
      timed_steps n p (length past) w c.0 (get_or log (at + w.y) 0)
      ∙ ap (λ (i : ℕ). is (timed n p (length past) (get_or log i 0)))
      (let z : w.y ≡ inputs (take (length now) rows) = c.1 ∙ ap (λ (i : ℕ). inputs (take i rows)) (sym s) in omega arith)
  row_steps (constant v n p) l c o e s = timed_steps n p (length past) w c v
  row_steps (combine op a b) l c o e s = refl
  row_steps (register v b a) l c o e s = registers v (cell_in now b) (history past a) w c
  row_steps (faster a k g) l c o e s =
      subst (λ (t : ℕ). faster_step t (cell_in now a) w ≡ faster_of k g (cell_in now a) (history past a)) (history_length past a)
      (faster_steps k g l.1.from l.2.from (history past a) w (cell_in now a) c)
  row_steps (slower a k) l c o e s = slower_steps k (history past a) w c (cell_in now a)
  row_steps (later a d) l c o e s = laters d (cell_in now a) (history past a) w (o.of_later a d refl)
  row_steps (head a v i) l c o e s =
      subst (λ (t : ℕ). head_step t (cell_in now a) v i w ≡ head_of v i (cell_in now a) (history past a)) (history_length past a)
      (head_steps v i (history past a) w (cell_in now a) c)
  row_steps (tail a) l c o e s = tail_steps (history past a) w c (cell_in now a)
  row_steps (sample u a c) l d o e s = refl
  row_steps (merge c a b) l d o e s = refl
  row_steps unrated l d o e s = refl
  row_steps (view u a c v) l d o e s =
      subst (λ (t : ℕ). view_step u (cell_in now a) (view_next v t (mark (cell_in now a)) (status (cell_in now c)) w)
      ≡ viewed u v (cell_in now a) (history past a) (cell_in now c) (history past c)) (history_length past a)
      (view_steps v l.2.from (history past a) (history past c) (history_length past a ∙ sym (history_length past c)) w u (cell_in now a) (cell_in now c) d
      (o.of_view u a c v refl))

  pub row_follows : (row : Row) (cell : Cell) → Fits m f row → Carries rows f row (length past) (history past) w → Collected row (history past) w
      → step_of row (length past) log at (cell_in now) w ≡ is cell
      → Follows rows f row (length past) now past (next_of row (length past) (cell_in now) w)
  unfolding step_of next_of Carries Follows history
  row_follows (input n p) cell l c o e = (timed_follows n p (length past) w c.0 l.0.from, timed_keeps (length past) n w ∙ c.1)
  row_follows (constant v n p) cell l c o e = timed_follows n p (length past) w c l.0.from
  row_follows (combine op a b) cell l c o e = tt
  row_follows (register v b a) cell l c o e = c
  row_follows (faster a k g) cell l c o e =
      subst (λ (t : ℕ). faster_step t (cell_in now a) w ≡ is cell → Copies k g (cell_in now a ∷ history past a) (faster_next t (cell_in now a) k g w)) (history_length past a)
      (faster_follows k g l.1.from l.2.from (history past a) w (cell_in now a) cell c) e
  row_follows (slower a k) cell l c o e = slower_follows k (history past a) w c (cell_in now a)
  row_follows (later a d) cell l c o e = tt
  row_follows (head a v i) cell l c o e =
      subst (λ (t : ℕ). head_step t (cell_in now a) v i w ≡ is cell → Heads i (cell_in now a ∷ history past a) (head_next t (cell_in now a) i w).x) (history_length past a)
      (head_follows v i (history past a) w (cell_in now a) cell c) e
  row_follows (tail a) cell l c o e = tail_follows (history past a) w c (cell_in now a)
  row_follows (sample u a c) cell l d o e = tt
  row_follows (merge c a b) cell l d o e = tt
  row_follows unrated cell l d o e = tt
  row_follows (view u a c v) cell l d o e =
      subst (λ (t : ℕ). view_step u (cell_in now a) (view_next v t (mark (cell_in now a)) (status (cell_in now c)) w) ≡ is cell
      → Views v (cell_in now a ∷ history past a) (cell_in now c ∷ history past c) (view_next v t (mark (cell_in now a)) (status (cell_in now c)) w)) (history_length past a)
      (view_follows v l.2.from (history past a) (history past c) (history_length past a ∙ sym (history_length past c)) w u (cell_in now a) (cell_in now c) cell d
      (o.of_view u a c v refl)) e

-- what a row's words say of this tick they say of its operand's cell alone
pub follows_on : (m f t : ℕ) (rows : List Row) (past : Ticks) (now now' : Tick) (w : Held) (row : Row) → Fits m f row → ((a : ℕ) → a < f → cell_in now a ≡ cell_in now' a)
    → Follows rows f row t now past w → Follows rows f row t now' past w
unfolding Follows Carries history
follows_on m f t rows past now now' w (input n p) l e c = c
follows_on m f t rows past now now' w (constant v n p) l e c = c
follows_on m f t rows past now now' w (combine op a b) l e c = c
follows_on m f t rows past now now' w (register v b a) l e c = c
follows_on m f t rows past now now' w (faster a k g) l e c = subst (λ (x : Cell). Copies k g (x ∷ history past a) w) (e a l.0) c
follows_on m f t rows past now now' w (slower a k) l e c = subst (λ (x : Cell). ((count (x ∷ history past a) + w.x) % k ≡ 0) × (w.x < k)) (e a l.0) c
follows_on m f t rows past now now' w (later a d) l e c = c
follows_on m f t rows past now now' w (head a v s) l e c = subst (λ (x : Cell). Heads s (x ∷ history past a) w.x) (e a l.0) c
follows_on m f t rows past now now' w (tail a) l e c = subst (λ (x : Cell). eqb w.x 0 ≡ eqb (count (x ∷ history past a)) 0) (e a l.0) c
follows_on m f t rows past now now' w (sample u a c) l e d = d
follows_on m f t rows past now now' w (merge c a b) l e d = d
follows_on m f t rows past now now' w unrated l e d = d
follows_on m f t rows past now now' w (view u a c v) l e d =
    subst (λ (x : Cell). Views v (x ∷ history past a) (cell_in now' c ∷ history past c) w) (e a l.0)
    (subst (λ (x : Cell). Views v (cell_in now a ∷ history past a) (x ∷ history past c) w) (e c l.1) d)
