use mathlib.Core.Path.{refl}
use mathlib.Core.List.{List}
use Prim.Native.Nat.{ℕ, ◌+◌, ◌-◌, ◌/◌, ◌%◌, ◌<◌}
use native.Mathlib.Nat.{mod-lt, zero-lt-suc}
use native.Mathlib.Omega.{arith}
use lib.ListN.{length, get_or}
use Rattle.table.proofs.Puts.{nine_word, put_law}
use Rattle.table.proofs.Cursor.put.Goals as goal
use Rattle.table.proofs.Cursor.put.Goals.{then-i-out, else-i-out}

pub returns : goal.returns
returns c =
    let a = c.args in
    let p = c.requires in
    let out : List ℕ = a.out.now in
    let i = a.self.at / 8 in
    let b : get_or out i 0 < 256 = omega (arith, c.slice_known-2-1.given i) in
    let e = nine_word (get_or out i 0) (a.self.at % 8) a.w a.v b (mod-lt a.self.at (zero-lt-suc 7)) (omega arith) p.3 in (
      refl,
      elim c.if-i-out.branch [
        | then-i-out w ↦
            put_law (length out) a.self.at a.w a.v (i + 9 - i) out p.3 p.4 (omega arith) (omega arith) (omega arith) (omega (arith, w.if-i-out.true)) c.if-i-out.out
            w.store.new.out _ e (rw c.from.ensures at w.store.ensures) w.out-is
        | else-i-out w ↦
            (let end = w.byte_count.ensures in
            put_law (length out) a.self.at a.w a.v (w.byte_count.result - i) out p.3 p.4 (omega arith) (omega (arith, end)) (omega (arith, end, w.if-i-out.false)) (omega (arith, end))
            c.if-i-out.out w.store-else-i-out.new.out _ e (rw c.from.ensures at w.store-else-i-out.ensures) w.out-is)
      ],
    )
