-- The histories of a flow in two runs whose logs agree on the inputs of its set. Assumes nothing.
use mathlib.Core.Path.{◌≡◌, sym, ◌∙◌, ap, subst}
use Prim.Native.Nat.{ℕ, zero, suc, ◌+◌, ◌-◌, ◌≤◌, ◌<◌}
use native.Mathlib.Omega.{arith}
use mathlib.Core.Bool.{true}
use mathlib.Core.List.{List, [], ◌∷◌}
use lib.ListN.{length, drop}
use Rattle.table.specs.Answers.{good}
use Rattle.table.specs.Rows.{Row, input, tail}
use Rattle.table.specs.Plain.{row_words}
use Rattle.table.specs.Tables.{row_at}
use Rattle.table.proofs.Tests.{and_both, good_inj}
use Rattle.table.proofs.Lists.{Each, each_of}
use Rattle.table.proofs.Linked.{linked}
use Rattle.checker.specs.Clocks.{Clock, every}
use Rattle.checker.specs.Rules.{clock_of, clock_at}
use Rattle.checker.specs.Answers.{clocks_words, clocks_after, checking}
use Rattle.checker.proofs.WordLaws.{word_at_lem}
use Rattle.reach.specs.Sets.{Flows}
use Rattle.reach.specs.Reach.{through}
use Rattle.reach.proofs.Closing.{through_itself, through_step}
use Rattle.semantics.specs.Cells.{History, on_grid, back}
use Rattle.semantics.specs.Runs.{is_input, Ticks, history, word, done, run}
use Rattle.semantics.proofs.Inputs.{input_kind}
use Rattle.semantics.proofs.Traces.{run_earlier}
use Rattle.calendar.specs.Calendar.{clock_word}
use Rattle.calendar.proofs.Grid.{On, on_of}
use Rattle.calendar.proofs.Unclashed.{unclashed}
use Rattle.influence.specs.Felt.{rests, input_at, feels}
use Rattle.influence.specs.Influence.{AgreeOn, Agreeing}
use Rattle.influence.proofs.Plans.{Plan, plan, accepted}
use Rattle.influence.proofs.Conditions.{rest_named}
use Rattle.influence.proofs.Alike.{Ready, histories_alike}
use Rattle.influence.proofs.FeltSets.{of_set}

-- ---- an input row

-- its clock is as written
input_clock : (clk : ℕ → Clock) (f : ℕ) (r : Row) (n p : ℕ) → clock_of clk f r ≡ good (clk f) → r ≡ input n p → clk f ≡ every n p
unfolding clock_of
input_clock clk f r n p c e = sym (good_inj (subst (λ (q : Row). clock_of clk f q ≡ good (clk f)) e c))

module _ (m : ℕ) (words : List ℕ) (ks : List Clock) (p : Plan m words ks) (i n q : ℕ) (l : i < m) (e : row_at p.rows i ≡ input n q) where
  input_at_lem : input_at words i ≡ true
  input_at_lem =
      let w = row_words words i in
      let d = p.table.row_at_lem i l in
      sym (input_kind w.kind w.one w.two w.three d.known) ∙ ap is_input (d.row ∙ e)

  -- and stands so in the check's words
  own_clock : (clocks : List ℕ) → checking m words (length clocks) ≡ good ks
      → (clock_word (clocks_after m words clocks) i 0 ≡ n) × (clock_word (clocks_after m words clocks) i 1 ≡ q)
  own_clock clocks x =
      let c : clock_at ks i ≡ every n q = input_clock (clock_at ks) i (row_at p.rows i) n q (p.clock_of_lem i l) e in
      let rest : List ℕ = drop (length (clocks_words ks)) clocks in
      let k : i < length ks = rw p.size l in
      rw x (
        word_at_lem ks rest i 0 k (omega arith) ∙ ap (λ (j : Clock). j.period) c,
        word_at_lem ks rest i 1 k (omega arith) ∙ ap (λ (j : Clock). j.phase) c,
      )

-- ---- two runs of t + 1 ticks

module _ (m : ℕ) (words clocks : List ℕ) (ks : List Clock) (p : Plan m words ks) (x : checking m words (length clocks) ≡ good ks) (t : ℕ) (log log' : List ℕ)
    (f : ℕ) (l : f < m) (agree : (i : ℕ) → i < m → feels m words ks f i ≡ true → AgreeOn m words (clocks_after m words clocks) t log log' i) where
  -- the flows to which f leads
  abbrev led : Flows
  led = through (rests words ks) m f

  same_word : (g n q u : ℕ) → g < m → u ≤ t → led g ≡ true → row_at p.rows g ≡ input n q → on_grid n q u ≡ true → word p.rows log u g ≡ word p.rows log' u g
  unfolding feels
  same_word g n q u k y i e o =
      let on : On n q u = on_of n q u o in
      let c = own_clock m words ks p g n q k e clocks x in
      rw p.is_table at (agree g k (and_both (input_at_lem m words ks p g n q k e) i) u on.whole (rw (c.0, c.1) on.eq) y)

  ready : (u : ℕ) → u ≤ t → Each (Ready p.rows log log' m led u) 0 p.rows
  ready u y =
      each_of (Ready p.rows log log' m led u) p.rows (tail 0)
      λ g z. let k : g < m = rw p.table.size at z in
      record {
        linked = λ i. linked (row_words words g) (λ a. led a ≡ true) m g (row_at p.rows g) (p.table.row_at_lem g k)
            (λ h e. through_step (rests words ks) m f g h k i (rest_named m words ks p g h e));
        logged = λ i n q e o. same_word g n q u k y i e o;
      }

  alike : (past past' : Ticks) → run p.rows log (suc t) ≡ done past → run p.rows log' (suc t) ≡ done past' → history past f ≡ history past' f
  alike past past' e e' =
      histories_alike p.rows log log' m led p.table.size (suc t) past past' e e' (λ u z. ready u (omega arith)) f l (through_itself (rests words ks) m f)

-- ---- two longer runs

-- a flow's cell some ticks back is the cell of the run before those ticks
history_back : (i : ℕ) (late : Ticks) (f j : ℕ) → back (history late f) (i + j) ≡ back (history (drop i late) f) j
unfolding history
history_back zero late f j = let z : 0 + j ≡ j = omega arith in ap (back (history late f)) z
history_back (suc i) [] f j = let z : suc i + j ≡ suc (i + j) = omega arith in ap (back (history [] f)) z
history_back (suc i) (now ∷ late) f j = let z : suc i + j ≡ suc (i + j) = omega arith in ap (back (history (now ∷ late) f)) z ∙ history_back i late f j

-- tick u of a longer run
earlier : (rows : List Row) (log : List ℕ) (t : ℕ) (past : Ticks) → run rows log (suc t) ≡ done past → (ticks : ℕ) (late : Ticks) → t < ticks → run rows log ticks ≡ done late
    → (f u : ℕ) → u ≤ t → back (history late f) (ticks - suc u) ≡ back (history past f) (t - u)
earlier rows log t past e ticks late l d f u y =
    let i : ℕ = ticks - suc t in
    let n : ticks ≡ i + suc t = omega arith in
    let z : ticks - suc u ≡ i + (t - u) = omega arith in
    let q : drop i late ≡ past = run_earlier rows log (suc t) i past late e (subst (λ (k : ℕ). run rows log k ≡ done late) n d) in
    ap (back (history late f)) z ∙ history_back i late f (t - u) ∙ ap (λ (k : Ticks). back (history k f) (t - u)) q

-- The plan of two logs that agree, and what follows for runs over them.
pub record Agreed (m : ℕ) (words : List ℕ) (t : ℕ) (log log' : List ℕ) (f : ℕ) : Type 0 where
  pub ks : List Clock
  pub plan : Plan m words ks
  pub histories : (past past' : Ticks) → run plan.rows log (suc t) ≡ done past → run plan.rows log' (suc t) ≡ done past' → history past f ≡ history past' f

pub agreed : (m : ℕ) (words clocks sets : List ℕ) (t : ℕ) (log log' : List ℕ) (f : ℕ) → Agreeing m words clocks sets t log log' f → Agreed m words t log log' f
agreed m words clocks sets t log log' f a =
    let k = accepted m words clocks a.accepted in
    let p = plan m words k.0 k.1 in
    record {
      ks = k.0;
      plan = p;
      histories = alike m words clocks k.0 p k.2 t log log' f a.flow (λ i l h. a.agree i (of_set m words sets a.given k.0 k.1 f a.flow i l h));
    }

-- tick u of two longer runs
module _ (m : ℕ) (words : List ℕ) (t : ℕ) (log log' : List ℕ) (f : ℕ) (a : Agreed m words t log log' f) where
  upto : (lg : List ℕ) → (past : Ticks) × (run a.plan.rows lg (suc t) ≡ done past)
  upto lg = let u = unclashed m words a.plan.rows a.ks a.plan.is_table a.plan.found lg (suc t) in (u.0, u.1)

  pub same_back : (ticks ticks' : ℕ) (late late' : Ticks) → t < ticks → t < ticks' → run a.plan.rows log ticks ≡ done late → run a.plan.rows log' ticks' ≡ done late'
      → (u : ℕ) → u ≤ t → back (history late f) (ticks - suc u) ≡ back (history late' f) (ticks' - suc u)
  same_back ticks ticks' late late' l l' d d' u y =
      let v = upto log in
      let v' = upto log' in
      earlier a.plan.rows log t v.0 v.1 ticks late l d f u y
      ∙ ap (λ (h : History). back h (t - u)) (a.histories v.0 v'.0 v.1 v'.1)
      ∙ sym (earlier a.plan.rows log' t v'.0 v'.1 ticks' late' l' d' f u y)
