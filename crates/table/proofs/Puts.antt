-- Laws of putting a number at a bit place: what the machine computes, its nine bytes, and what the bytes then begin with. Assumes nothing.
use mathlib.Core.Path.{◌≡◌, refl, sym, ap, ap₂, ◌∙◌, subst}
use mathlib.Core.Bool.{Bool, false}
use mathlib.Core.List.{List, [], ◌∷◌, ◌++◌, append_assoc, append-nil}
use Prim.Native.Nat.{ℕ, zero, suc, ◌+◌, ◌-◌, ◌*◌, ◌/◌, ◌%◌, ◌^◌, ◌≤◌, ◌<◌}
use native.Mathlib.Nat.{add-zero, mul_assoc, mod-lt, mod-eq_of_lt}
use native.Mathlib.Omega.{arith}
use lib.ListN.{length, get_or, take, drop, length-append, length-drop, take-append-drop, replicate}
use lib.Seq.{drop-cons, drop-drop, take-append-le, take-append-add, take-take, take_at, length-take-le, paste, length-paste, drop-paste}
use lib.Pow.{pow_pos, pow-add, shl_lt, shr_lt, shl_exact, shl-shr, shr-shr, split, high, low, mod-pow-add, mod-mod-pow}
use lib.Arith.{digits_lt}
use lib.Bits.{bit_or, or_shifted}
use borrow.Rule.Slice.PartMut.{put_mid}
use Rattle.table.specs.Bits.{to_bits, bits, byte_count}
use Rattle.table.specs.Private.Laid.{nine_byte, nine, whole, fill, Begun, Put}
use Rattle.table.proofs.BitLaws.{length_to_bits, to_bits_append, to_bits_behind, to_bits_low, zeros, bits_append, length_bits, take_bits}
use Rattle.table.proofs.ByteLaws.{take_zeros}

-- ---- the number that is stored

-- a field of w bits behind a number of p bits
pub more_bits : (p w h x : ℕ) → to_bits (p + w) (h * 2 ^ w + x % 2 ^ w) ≡ to_bits p h ++ to_bits w x
more_bits p w h x =
    to_bits_append p w (h * 2 ^ w + x % 2 ^ w)
    ∙ ap₂ ◌++◌ (ap (to_bits p) (high h w (mod-lt x (pow_pos w)))) (to_bits_behind w h (x % 2 ^ w) ∙ to_bits_low w x)

pub more_lt : (p w h x : ℕ) → h < 2 ^ p → h * 2 ^ w + x % 2 ^ w < 2 ^ (p + w)
more_lt p w h x l = rw (pow-add 2 p w) (digits_lt l (mod-lt x (pow_pos w)))

-- and f zero bits behind it
shifted : (f y : ℕ) → to_bits f (y * 2 ^ f) ≡ replicate f false
shifted f y = ap (to_bits f) (sym (add-zero (y * 2 ^ f))) ∙ to_bits_behind f y 0 ∙ zeros f

three : (o w f h v : ℕ) → v < 2 ^ w → to_bits (o + w + f) ((h * 2 ^ w + v) * 2 ^ f) ≡ to_bits o h ++ (to_bits w v ++ replicate f false)
three o w f h v l =
    let y : ℕ = h * 2 ^ w + v in
    let e : v % 2 ^ w ≡ v = mod-eq_of_lt l in
    to_bits_append (o + w) f (y * 2 ^ f)
    ∙ ap₂ ◌++◌ (ap (to_bits (o + w)) (shl-shr y f ∙ ap (λ (x : ℕ). h * 2 ^ w + x) (sym e)) ∙ more_bits o w h v) (shifted f y)
    ∙ append_assoc (to_bits o h) (to_bits w v) (replicate f false)

-- What the machine computes: the bits before the place and the number at the top of a word, in nine bytes.
joined : (h v q r a w f p k : ℕ) → a * 256 ≡ w * f → p * k ≡ 256 → (q * p + r) * k ≡ v * f → (h * a + q) * 256 + r * k ≡ (h * w + v) * f
joined h v q r a w f p k e1 e2 e3 =
    let u : h * a * 256 ≡ h * w * f = mul_assoc h a 256 ∙ ap (λ (x : ℕ). h * x) e1 ∙ sym (mul_assoc h w f) in
    let z : q * p * k ≡ q * 256 = mul_assoc q p k ∙ ap (λ (x : ℕ). q * x) e2 in
    omega (arith, u, z, e3)

module _ (b o w v : ℕ) (hb : b < 256) (ho : o < 8) (hw : w ≤ 64) (hv : v < 2 ^ w) where
  before : ℕ
  before = b / 2 ^ (8 - o)

  field : ℕ
  field = v * 2 ^ (64 - w)

  before_lt : before < 2 ^ o
  unfolding before
  before_lt = let e : o + (8 - o) ≡ 8 = omega arith in shr_lt {n = b} o (8 - o) (rw e hb)

  field_lt : field < 2 ^ 64
  unfolding field
  field_lt = let e : w + (64 - w) ≡ 64 = omega arith in rw e at (shl_lt {a = v} w (64 - w) hv)

  first_eight : bit_or ((before * 2 ^ 1 % 2 ^ 64) * 2 ^ (63 - o) % 2 ^ 64) (field / 2 ^ o) ≡ before * 2 ^ (64 - o) + field / 2 ^ o
  first_eight =
      let e : 1 + (63 - o) ≡ 64 - o = omega arith in
      let d : 64 - o + o ≡ 64 = omega arith in
      let l : field / 2 ^ o < 2 ^ (64 - o) = shr_lt {n = field} (64 - o) o (rw d field_lt) in
      let s : before * 2 ^ 1 * 2 ^ (63 - o) ≡ before * 2 ^ (64 - o) =
      mul_assoc before (2 ^ 1) (2 ^ (63 - o)) ∙ ap (λ (x : ℕ). before * x) (sym (pow-add 2 1 (63 - o)) ∙ ap (λ (x : ℕ). 2 ^ x) e) in
      ap (λ (x : ℕ). bit_or (x * 2 ^ (63 - o) % 2 ^ 64) (field / 2 ^ o)) (shl_exact {a = before} o 1 64 before_lt (omega arith))
      ∙ ap (λ (x : ℕ). bit_or x (field / 2 ^ o)) (shl_exact {a = before * 2 ^ 1} (o + 1) (63 - o) 64 (shl_lt {a = before} o 1 before_lt) (omega arith) ∙ s)
      ∙ or_shifted before (64 - o) (field / 2 ^ o) l

  ninth : (field * 2 ^ (8 - o) % 2 ^ 64) % 256 ≡ field % 2 ^ o * 2 ^ (8 - o)
  ninth =
      let n : ℕ = field * 2 ^ (8 - o) in
      let e : 8 ≡ o + (8 - o) = omega arith in
      mod-mod-pow n 56 8 ∙ ap (λ (x : ℕ). n % 2 ^ x) e ∙ mod-pow-add n o (8 - o)
      ∙ ap₂ (λ (x y : ℕ). x % 2 ^ o * 2 ^ (8 - o) + y) (shl-shr field (8 - o))
      (ap (λ (x : ℕ). x % 2 ^ (8 - o)) (sym (add-zero n)) ∙ low field (8 - o) (pow_pos (8 - o)))
      ∙ add-zero (field % 2 ^ o * 2 ^ (8 - o))

  nine_number : (before * 2 ^ (64 - o) + field / 2 ^ o) * 256 + field % 2 ^ o * 2 ^ (8 - o) ≡ (before * 2 ^ w + v) * 2 ^ (72 - o - w)
  unfolding field
  nine_number =
      let e1 : 64 - o + 8 ≡ w + (72 - o - w) = omega arith in
      let e2 : o + (8 - o) ≡ 8 = omega arith in
      let e3 : 64 - w + (8 - o) ≡ 72 - o - w = omega arith in
      joined before v (field / 2 ^ o) (field % 2 ^ o) (2 ^ (64 - o)) (2 ^ w) (2 ^ (72 - o - w)) (2 ^ o) (2 ^ (8 - o))
      (sym (pow-add 2 (64 - o) 8) ∙ ap (λ (x : ℕ). 2 ^ x) e1 ∙ pow-add 2 w (72 - o - w))
      (sym (pow-add 2 o (8 - o)) ∙ ap (λ (x : ℕ). 2 ^ x) e2)
      (ap (λ (x : ℕ). x * 2 ^ (8 - o)) (split field o) ∙ mul_assoc v (2 ^ (64 - w)) (2 ^ (8 - o))
      ∙ ap (λ (x : ℕ). v * x) (sym (pow-add 2 (64 - w) (8 - o)) ∙ ap (λ (x : ℕ). 2 ^ x) e3))

  pub nine_word :
      bit_or ((b / 2 ^ (8 - o) * 2 ^ 1 % 2 ^ 64) * 2 ^ (63 - o) % 2 ^ 64) (v * 2 ^ (64 - w) % 2 ^ 64 / 2 ^ o) * 256
      + (v * 2 ^ (64 - w) % 2 ^ 64 * 2 ^ (8 - o) % 2 ^ 64) % 256 ≡ (b / 2 ^ (8 - o) * 2 ^ w + v) * 2 ^ (72 - o - w)
  unfolding before field
  nine_word =
      let e : v * 2 ^ (64 - w) % 2 ^ 64 ≡ v * 2 ^ (64 - w) = shl_exact {a = v} w (64 - w) 64 hv (omega arith) in
      rw (e, first_eight, ninth) nine_number

-- ---- its bytes

-- a byte as the machine computes it
pub byte_in : (x y k : ℕ) → y < 256 → k < 8 → x / 2 ^ (56 - 8 * k) % 256 ≡ nine_byte (x * 256 + y) k
byte_in x y k hy hk =
    let v = x * 256 + y in
    let e : 8 + (56 - 8 * k) ≡ 64 - 8 * k = omega arith in
    let d : x ≡ v / 256 = omega arith in
    ap (λ (n : ℕ). n % 256) (ap (λ (n : ℕ). n / 2 ^ (56 - 8 * k)) d ∙ shr-shr v 8 (56 - 8 * k) ∙ ap (λ (n : ℕ). v / 2 ^ n) e)

-- byte k of the list
pub nine_at : (v k : ℕ) → k < 9 → get_or (nine v) k 0 ≡ nine_byte v k
nine_at v zero h = refl
nine_at v (suc zero) h = refl
nine_at v (suc (suc zero)) h = refl
nine_at v (suc (suc (suc zero))) h = refl
nine_at v (suc (suc (suc (suc zero)))) h = refl
nine_at v (suc (suc (suc (suc (suc zero))))) h = refl
nine_at v (suc (suc (suc (suc (suc (suc zero)))))) h = refl
nine_at v (suc (suc (suc (suc (suc (suc (suc zero))))))) h = refl
nine_at v (suc (suc (suc (suc (suc (suc (suc (suc zero)))))))) h = refl
nine_at v (suc (suc (suc (suc (suc (suc (suc (suc (suc k))))))))) h = absurd (omega arith)

-- one byte more in front
byte_more : (r v : ℕ) (s : List ℕ) → bits s ≡ to_bits r v → bits (v / 2 ^ r % 256 ∷ s) ≡ to_bits (8 + r) v
unfolding bits
byte_more r v s e = ap₂ ◌++◌ (to_bits_low 8 (v / 2 ^ r)) e ∙ sym (to_bits_append 8 r v)

last_byte : (v : ℕ) → bits (v / 2 ^ 0 % 256 ∷ []) ≡ to_bits 8 v
unfolding bits to_bits
last_byte v = byte_more 0 v [] refl

bits_nine : (v : ℕ) → bits (nine v) ≡ to_bits 72 v
bits_nine v =
    byte_more 64 v _ (byte_more 56 v _ (byte_more 48 v _ (byte_more 40 v _ (byte_more 32 v _ (byte_more 24 v _ (byte_more 16 v _ (byte_more 8 v _ (last_byte v))))))))

-- ---- the bits before the place

-- the first bits of a byte are those of its high part
byte_head : (s : List ℕ) (i o : ℕ) → o ≤ 8 → o + 8 * i ≤ 8 * length s → take o (bits (drop i s)) ≡ to_bits o (get_or s i 0 / 2 ^ (8 - o))
unfolding bits to_bits
byte_head s i zero h l = refl
byte_head s i (suc o) h l =
    let x = get_or s i 0 in
    let e : suc o + (8 - suc o) ≡ 8 = omega arith in
    let le : suc o ≤ length (to_bits 8 x) = omega (arith, length_to_bits 8 x) in
    ap (λ (t : List ℕ). take (suc o) (bits t)) (drop-cons s i 0 (omega arith)) ∙ take-append-le (suc o) (to_bits 8 x) (bits (drop (suc i) s)) le
    ∙ ap (λ (k : ℕ). take (suc o) (to_bits k x)) (sym e) ∙ ap (take (suc o)) (to_bits_append (suc o) (8 - suc o) x)
    ∙ take_at (to_bits (suc o) (x / 2 ^ (8 - suc o))) (to_bits (8 - suc o) x) (suc o) (length_to_bits (suc o) (x / 2 ^ (8 - suc o)))

length_front : (s : List ℕ) (i : ℕ) → i ≤ length s → length (bits (take i s)) ≡ 8 * i
length_front s i h = length_bits (take i s) ∙ ap (λ (k : ℕ). 8 * k) (length-take-le i s h)

bits_before : (s : List ℕ) (i o : ℕ) → o ≤ 8 → o + 8 * i ≤ 8 * length s
    → take (8 * i + o) (bits s) ≡ bits (take i s) ++ to_bits o (get_or s i 0 / 2 ^ (8 - o))
bits_before s i o h l =
    ap (λ (t : List ℕ). take (8 * i + o) (bits t)) (sym (take-append-drop i s)) ∙ ap (take (8 * i + o)) (bits_append (take i s) (drop i s))
    ∙ ap (λ (k : ℕ). take (k + o) (bits (take i s) ++ bits (drop i s))) (sym (length_front s i (omega arith))) ∙ take-append-add (bits (take i s)) (bits (drop i s)) o
    ∙ ap (λ (t : List Bool). bits (take i s) ++ t) (byte_head s i o h l)

-- ---- a number is put

-- the bits of a number and k more
take_behind : (w x k : ℕ) (bs : List Bool) → take (w + k) (to_bits w x ++ bs) ≡ to_bits w x ++ take k bs
take_behind w x k bs =
    ap (λ (n : ℕ). take (n + k) (to_bits w x ++ bs)) (sym (length_to_bits w x)) ∙ take-append-add (to_bits w x) bs k

-- The first n of the nine bytes are stored at a place's byte: those that the number reaches, and no byte from size on.
module _ (size at w v n : ℕ) (out : List ℕ) (hv : v < 2 ^ w) (room : at + w ≤ 8 * size) (fits : size ≤ length out)
    (enough : byte_count (at + w) ≤ at / 8 + n) (most : n ≤ 9) (within : at / 8 + n ≤ size) where
  abbrev i : ℕ
  i = at / 8

  abbrev o : ℕ
  o = at % 8

  abbrev before_at : ℕ
  before_at = get_or out i 0 / 2 ^ (8 - o)

  abbrev number : ℕ
  number = (before_at * 2 ^ w + v) * 2 ^ (72 - o - w)

  -- of the bytes' bits, those up to the number's last byte
  put_bits : take (8 * (byte_count (at + w) - i)) (bits (take n (nine number))) ≡ to_bits o before_at ++ (to_bits w v ++ fill (at + w))
  put_bits =
      let m = 8 * (byte_count (at + w) - i) in
      let g = whole (at + w) - (at + w) in
      let f = 72 - o - w in
      let em : m ≡ o + (w + g) = omega arith in
      let ef : 72 ≡ o + w + f = omega arith in
      ap (take m) (sym (take_bits n (nine number))) ∙ take-take m (8 * n) (bits (nine number)) (omega arith) ∙ ap (take m) (bits_nine number)
      ∙ ap₂ (λ (a b : ℕ). take a (to_bits b number)) em ef ∙ ap (take (o + (w + g))) (three o w f before_at v hv)
      ∙ take_behind o before_at (w + g) (to_bits w v ++ replicate f false)
      ∙ ap (λ (t : List Bool). to_bits o before_at ++ t) (take_behind w v g (replicate f false))
      ∙ ap (λ (t : List Bool). to_bits o before_at ++ (to_bits w v ++ t)) (take_zeros g f (omega arith))

  pub put_law : (new part : List ℕ) (x : ℕ) → x ≡ number → part ≡ take (length (take n (drop i out))) (nine x) → new ≡ put_mid i n out part
      → Put size at (to_bits w v) out new
  put_law new part x ex ep en bs old len b =
      let f = to_bits w v in
      let head = bits (take i out) in
      let m = 8 * (byte_count (at + w) - i) in
      let stored = take n (nine number) in
      let rest = drop (i + n) out in
      let at_place : 8 * i + o ≡ at = omega arith in
      let end : length (bs ++ f) ≡ at + w = length-append bs f ∙ ap₂ ◌+◌ len (length_to_bits w v) in
      let in_out : i ≤ length out = omega arith in
      let room_is : length (take n (drop i out)) ≡ n = length-take-le n (drop i out) (omega (arith, length-drop i out)) in
      let e : new ≡ take i out ++ (stored ++ rest) =
      en ∙ ap (λ (t : List ℕ). take i out ++ t) (ap₂ ◌++◌ (ep ∙ ap₂ (λ (k y : ℕ). take k (nine y)) room_is ex) (drop-drop n i out)) in
      let is : new ≡ paste out i (nine number) n = e ∙ sym (append_assoc (take i out) stored rest) in
      let first : head ++ to_bits o before_at ≡ bs =
      sym (bits_before out i o (omega arith) (omega arith)) ∙ ap (λ (k : ℕ). take k (bits out)) at_place
      ∙ sym (take-take at (whole (length bs)) (bits out) (omega arith)) ∙ ap (take at) b.front ∙ take_at bs (fill (length bs)) at len in
      let all : whole (at + w) ≡ length head + m = omega (arith, length_front out i in_out) in
      let short : m ≤ length (bits stored) = omega (arith, length_front (nine number) n most) in
      let front : take (whole (at + w)) (bits new) ≡ (bs ++ f) ++ fill (at + w) =
      ap₂ (λ (k : ℕ) (s : List ℕ). take k (bits s)) all e
      ∙ ap (take (length head + m)) (bits_append (take i out) (stored ++ rest) ∙ ap (λ (t : List Bool). head ++ t) (bits_append stored rest))
      ∙ take-append-add head (bits stored ++ bits rest) m
      ∙ ap (λ (t : List Bool). head ++ t) (take-append-le m (bits stored) (bits rest) short ∙ put_bits)
      ∙ sym (append_assoc head (to_bits o before_at) (f ++ fill (at + w))) ∙ ap (λ (t : List Bool). t ++ (f ++ fill (at + w))) first
      ∙ sym (append_assoc bs f (fill (at + w))) in
      let far : i + n + (size - (i + n)) ≡ size = omega arith in
      let last : drop size new ≡ drop size out =
      ap (λ (k : ℕ). drop k new) (sym far) ∙ sym (drop-drop (size - (i + n)) (i + n) new)
      ∙ ap (drop (size - (i + n))) (ap (drop (i + n)) is ∙ drop-paste out i (nine number) n in_out most)
      ∙ drop-drop (size - (i + n)) (i + n) out ∙ ap (λ (k : ℕ). drop k out) far in
      record {
        front = rw end front;
        behind = last ∙ b.behind;
        size_kept = ap length is ∙ length-paste out i (nine number) n (omega arith) most ∙ b.size_kept;
      }

-- ---- one after another

pub put_none : (size at : ℕ) (out : List ℕ) → Put size at [] out out
put_none size at out bs old len b = subst (λ (l : List Bool). Begun size l old out) (sym (append-nil bs)) b

pub put_put : (size at q : ℕ) (f g : List Bool) (a b c : List ℕ) → q ≡ at + length f → Put size at f a b → Put size q g b c → Put size at (f ++ g) a c
put_put size at q f g a b c e put then bs old len begun =
    let end : length (bs ++ f) ≡ q = length-append bs f ∙ ap (λ (n : ℕ). n + length f) len ∙ sym e in
    subst (λ (l : List Bool). Begun size l old c) (append_assoc bs f g) (then (bs ++ f) old end (put bs old len begun))

-- into bytes that begin with nothing yet
pub put_first : (size : ℕ) (f : List Bool) (old new : List ℕ) → Put size 0 f old new → Begun size f old new
put_first size f old new put = put [] old refl (record { front = refl; behind = refl; size_kept = refl })
