-- A listing is no longer than the text that it was written into, so that a part of the text has its size. Assumes nothing.
use mathlib.Core.Path.{◌≡◌, sym, ap}
use Prim.Native.Nat.{ℕ, ◌≤◌}
use native.Mathlib.Omega.{arith}
use mathlib.Core.List.{List}
use lib.ListN.{length, take, drop, length-append}
use lib.Seq.{length-take-le}
use Rattle.table.specs.declared.Answer.{Answer}
use Rattle.table.specs.Answers.{Result, good, refused, success, answer, leaves}
use Rattle.lister.specs.Listing.{listing, listing_answer, text_after}

pub size_fits : (packed old : List ℕ) {new : List ℕ} {size : ℕ} → success size ≡ listing_answer packed (length old) → new ≡ text_after packed old
    → (size ≤ length new) × (size ≡ length (take size new))
size_fits packed old {new} {size} e t =
    let h : size ≤ length new = go (listing packed (length old)) e t in
    (h, sym (length-take-le size new h))
  where
    go : (r : Result (List ℕ)) → success size ≡ answer length r → new ≡ leaves (λ bs. bs) r old → size ≤ length new
    go (good bs) e t = omega (arith, ap (λ (w : Answer). w.count) e, ap length t, length-append bs (drop (length bs) old))
    go (refused why f) e t = omega (arith, ap (λ (w : Answer). w.count) e)
