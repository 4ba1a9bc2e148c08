-- Four times a binary64 number, and its comparison with 1 and 672.
use Rattle.std.proofs.Common.{◌≡◌, ℕ, zero, suc, ◌+◌, ◌-◌, ◌*◌, ◌%◌, ◌^◌, ◌<◌, ◌≤◌, Bool, true, false, cond, ◌&&◌, ◌||◌, T, eqb, ltb, leb, ℤ, pos, negsuc, sym, refl, ap, ◌∙◌, subst, arith, lit<, lit≤}
use Rattle.std.proofs.Common.{le_trans, le_of_eq, lt_of_lt_of_le, lt_of_le_of_lt, lt_irrefl, zero-lt-suc, mul_assoc, mul_comm, lt_of_mul-lt-mul_right, mul-lt-mul_of_pos_right, mul-pos, lt_of_not-le, zero-mul, mul-one, mul_right_comm, not-le_of_lt, le_of_mul-le-mul_right, mul_left_comm, le→leb, eqb→eq, ltb→lt, lt→ltb, leb→le, pow_pos, pow-add}
use native.Mathlib.Nat.{eq_of_mul-eq-mul_right}
use lib.Dec.{eqb_refl}
use lib.Pow.{pow-lt}
use lib.Ieee.{Float, nan, inf, fin, binary64, prec, emax, low, up, down, round, odd, units, mul, le, eq, of_bits, of_int, to_unsigned, in_float, fits}
use lib.Ieee.Exact.{HasValue, round_exact}
use lib.Ieee.Fits.{round_is, and_l, and_r, down_pos}
use lib.Ieee.Order.{round_mono, le_of_values, drop, kept}
use lib.Ieee.Scale.{round_same}
use lib.Ieee.Back.{round_whole, unsigned_back}
use lib.Ieee.Positive.{num, den, den_pos, positive, own_value, value→cross, value_pos, values_of_le, le_trans_positive, between, positive_of_value, mul_at}

abbrev pub one : Float
one = of_bits binary64 4607182418800017408

abbrev pub four : Float
four = of_bits binary64 4616189618054758400

abbrev pub top : Float
top = of_bits binary64 4649122190329905152

pub one_is : one ≡ fin false 1 (pos 0)
unfolding of_bits
one_is = refl

pub four_is : four ≡ fin false 1 (pos 2)
unfolding of_bits
four_is = refl

pub top_is : top ≡ fin false 21 (pos 5)
unfolding of_bits
top_is = refl

pub one_val : HasValue one false 1 1
one_val = subst (λ (y : Float). HasValue y false 1 1) (sym one_is) (refl, refl)

pub four_val : HasValue four false 4 1
four_val = subst (λ (y : Float). HasValue y false 4 1) (sym four_is) (refl, refl)

pub top_val : HasValue top false 672 1
top_val = subst (λ (y : Float). HasValue y false 672 1) (sym top_is) (refl, refl)

-- q / 4 times four is q
four_times : (x : Float) (q : ℕ) → 0 < q → HasValue x false q 4 → mul binary64 x four ≡ round binary64 false q 1
four_times x q p v =
    mul_at binary64 x four q 4 4 1 (positive_of_value x q 4 v p) (positive_of_value four 4 1 four_val (lit< tt)) (lit< tt) (lit< tt) v four_val
    ∙ round_same binary64 false (q * 4) 4 q 1 (lit< tt) (lit< tt) (mul-one (q * 4))

-- ---- a product by four that is above zero has a first factor above zero
odd_neg : (d q k l : ℕ) → T (positive (odd d true q k l)) → ⊥
unfolding odd
odd_neg d zero k l t = t
odd_neg d (suc q) k l t = t

units_neg : (q k : ℕ) → T (positive (units binary64 true q k)) → ⊥
unfolding units
units_neg q k = go (ltb (q * 2 ^ k) (2 ^ (low binary64 + suc (emax binary64))))
  where
    go : (b : Bool) → T (positive (cond b (odd (suc (prec binary64)) true q k (low binary64)) (inf true))) → ⊥
    go true t = odd_neg (suc (prec binary64)) q k (low binary64) t
    go false t = t

round_neg : (a c : ℕ) → T (positive (round binary64 true a c)) → ⊥
round_neg a c t = units_neg (kept 53 (a * 2 ^ 1074) c) (drop 53 (a * 2 ^ 1074) c) (subst (λ (y : Float). T (positive y)) (round_is binary64 true a c) t)

round_zero : (c : ℕ) → 0 < c → T (positive (round binary64 false 0 c)) → ⊥
round_zero c C t =
    let e : round binary64 false 0 c ≡ round binary64 false 0 1 = round_same binary64 false 0 c 0 1 C (lit< tt) (sym (zero-mul c)) in
    let v : HasValue (round binary64 false 0 c) false 0 1 = subst (λ (y : Float). HasValue y false 0 1) (sym e) (round_whole binary64 false 0 (lit≤ tt)) in
    lt_irrefl 0 (value_pos (round binary64 false 0 c) 0 1 t (lit< tt) v)

by_four : (x : Float) → T (positive (mul binary64 x (fin false 1 (pos 2)))) → T (positive x)
unfolding mul
by_four nan t = t
by_four (inf true) t = t
by_four (inf false) t = t
by_four (fin true m e) t = absurd (round_neg (m * up e * 4) (down e * 1) t)
by_four (fin false zero e) t = absurd (round_zero (down e * 1) (subst (λ (y : ℕ). 0 < y) (sym (mul-one (down e))) (down_pos e)) (subst (λ (a : ℕ). T (positive (round binary64 false a (down e * 1)))) (ap (λ (y : ℕ). y * 4) (zero-mul (up e)) ∙ zero-mul 4) t))
by_four (fin false (suc m) e) t = lt→ltb 0 (suc m) (zero-lt-suc m)

-- ---- where the product is at most 672, the number is below 256: nothing overflows
mul_is : (x : Float) → T (positive x) → mul binary64 x four ≡ round binary64 false (num x * 4) (den x)
mul_is x p =
    mul_at binary64 x four (num x) (den x) 4 1 p (positive_of_value four 4 1 four_val (lit< tt)) (den_pos x) (lit< tt) (own_value x p) four_val
    ∙ ap (λ (c : ℕ). round binary64 false (num x * 4) c) (mul-one (den x))

big : Float
big = round binary64 false 1024 1

big_val : HasValue big false 1024 1
unfolding big
big_val = round_whole binary64 false 1024 (lit≤ tt)

small : (x : Float) → T (positive x) → T (positive (mul binary64 x four)) → T (le (mul binary64 x four) top) → num x * 4 < 1024 * den x
unfolding big
small x p pz h = lt_of_not-le (λ (g : 1024 * den x ≤ num x * 4).
    let bz : T (le big (mul binary64 x four)) = subst (λ (y : Float). T (le big y)) (sym (mul_is x p))
    (round_mono binary64 1024 1 (num x * 4) (den x) (lit< tt) (den_pos x) (subst (λ (y : ℕ). 1024 * den x ≤ y) (sym (mul-one (num x * 4))) g)) in
    let pb : T (positive big) = positive_of_value big 1024 1 big_val (lit< tt) in
    let pt : T (positive top) = positive_of_value top 672 1 top_val (lit< tt) in
    let bt : T (le big top) = le_trans_positive big (mul binary64 x four) top pb pz pt bz h in
    let r : 1024 ≤ 672 = values_of_le big top 1024 1 672 1 pb pt big_val top_val bt in
    not-le_of_lt (lit< tt) r)

-- ---- so it is exact
exp_le : (k l : ℕ) → 2 ^ k ≤ 2 ^ l → k ≤ l
exp_le k l h = let go : (l < k → ⊥) = λ g. not-le_of_lt (pow-lt g) h in omega (arith, go)

room : (N D W : ℕ) → 0 < D → N * 2 ^ 1074 ≡ W * D → N < 1024 * D → W < 2 ^ (1074 + 1024)
room N D W p e h =
    let a : N * 2 ^ 1074 < 1024 * D * 2 ^ 1074 = mul-lt-mul_of_pos_right h (pow_pos 1074) in
    let b : W * D < 1024 * 2 ^ 1074 * D = subst (λ (y : ℕ). y < 1024 * 2 ^ 1074 * D) e (lt_of_lt_of_le a (le_of_eq (mul_right_comm 1024 D (2 ^ 1074)))) in
    lt_of_lt_of_le (lt_of_mul-lt-mul_right D b) (lit≤ tt)

fits_mant : (s : Bool) (m : ℕ) (e : ℤ) → T (fits binary64 (fin s (suc m) e)) → (suc m < 2 ^ 53) × (down e ≤ 2 ^ 1074)
unfolding fits
fits_mant s m e t =
    let a : Bool = eqb (suc m % 2) 1 in
    let b : Bool = ltb (suc m) (2 ^ 53) in
    let c : Bool = leb (down e) (2 ^ 1074) in
    let u : T (a && b && c) = and_l (a && b && c) (ltb (suc m * up e) (2 ^ 1024 * down e)) t in
    (ltb→lt (suc m) (2 ^ 53) (and_r a b (and_l (a && b) c u)), leb→le (down e) (2 ^ 1074) (and_r (a && b) c u))

shift : (e : ℤ) (m : ℕ) → down e ≤ 2 ^ 1074 → (j : ℕ) × (m * up e * 4 * 2 ^ 1074 ≡ m * 2 ^ j * down e)
shift (pos k) m h = (
  k + (2 + 1074),
  mul_assoc (m * 2 ^ k) 4 (2 ^ 1074) ∙ mul_assoc m (2 ^ k) (2 ^ (2 + 1074)) ∙ ap (λ (y : ℕ). m * y) (sym (pow-add 2 k (2 + 1074))) ∙ sym (mul-one (m * 2 ^ (k + (2 + 1074)))),
)
shift (negsuc k) m h =
    let l : suc k ≤ 1074 = exp_le (suc k) 1074 h in
    let s : 2 + (1074 - suc k) + suc k ≡ 2 + 1074 = omega arith in (
      2 + (1074 - suc k),
      mul_assoc (m * 1) 4 (2 ^ 1074) ∙ ap (λ (y : ℕ). y * 2 ^ (2 + 1074)) (mul-one m)
          ∙ ap (λ (y : ℕ). m * 2 ^ y) (sym s) ∙ ap (λ (y : ℕ). m * y) (pow-add 2 (2 + (1074 - suc k)) (suc k)) ∙ sym (mul_assoc m (2 ^ (2 + (1074 - suc k))) (2 ^ suc k)),
    )

product : (x : Float) → T (fits binary64 x) → T (positive x) → num x * 4 < 1024 * den x → HasValue (mul binary64 x four) false (num x * 4) (den x)
product nan f p h = absurd p
product (inf s) f p h = absurd p
product (fin true m e) f p h = absurd p
product (fin false zero e) f p h = absurd (lt_irrefl 0 (ltb→lt 0 0 p))
product (fin false (suc m) e) f p h =
    let k = fits_mant false m e f in
    let j = shift e (suc m) k.1 in
    subst (λ (y : Float). HasValue y false (suc m * up e * 4) (down e)) (sym (mul_is (fin false (suc m) e) p))
    (round_exact binary64 false (suc m * up e * 4) (down e) (suc m) j.0 (down_pos e) k.0 (room (suc m * up e * 4) (down e) (suc m * 2 ^ j.0) (down_pos e) j.1 h) j.1)

-- ---- two values that compare equal
eq→cross : (x y : Float) → T (positive y) → T (eq x y) → num x * den y ≡ num y * den x
unfolding eq
eq→cross nan y p t = absurd t
eq→cross (inf s) nan p t = absurd t
eq→cross (inf s) (inf u) p t = absurd p
eq→cross (inf s) (fin u n d) p t = absurd t
eq→cross (fin s m e) nan p t = absurd t
eq→cross (fin s m e) (inf u) p t = absurd p
eq→cross (fin s m e) (fin u n d) p t = eqb→eq (m * up e * down d) (n * up d * down e) (and_l (eqb (m * up e * down d) (n * up d * down e)) _ t)

eq_refl : (x : Float) → T (positive x) → T (eq x x)
unfolding eq
eq_refl nan p = absurd p
eq_refl (inf s) p = absurd p
eq_refl (fin true m e) p = absurd p
eq_refl (fin false m e) p = go (eqb (m * up e * down e) (m * up e * down e)) (eqb_refl (m * up e * down e))
  where
    go : (b : Bool) → T b → T (b && (true || eqb (m * up e * down e) 0))
    go true t = tt
    go false t = absurd t

-- A / a = Z / z, A / a = n and Z / z = X / d: so X / d = n
same_fraction : (A a Z z X d n : ℕ) → 0 < a → 0 < z → A * z ≡ Z * a → A * 1 ≡ n * a → Z * d ≡ X * z → X ≡ n * d
same_fraction A a Z z X d n pa pz e f g =
    eq_of_mul-eq-mul_right (z * a) (mul-pos pz pa) X (n * d)
    (sym (mul_assoc X z a) ∙ ap (λ (y : ℕ). y * a) (sym g) ∙ mul_right_comm Z d a ∙ ap (λ (y : ℕ). y * d) (sym e) ∙ ap (λ (y : ℕ). y * z * d) (sym (mul-one A) ∙ f)
    ∙ simp (mul_assoc, mul_comm, mul_left_comm))

pub accepted : (x : Float) (n : ℕ) → T (fits binary64 x) → n ≤ 2 ^ 53 → T (le one (mul binary64 x four)) → T (le (mul binary64 x four) top) → T (eq (of_int binary64 (pos n)) (mul binary64 x four))
    → (1 ≤ n) × (n ≤ 672) × HasValue x false n 4
unfolding of_int
accepted x n f l lo hi t =
    let z = mul binary64 x four in
    let po : T (positive one) = positive_of_value one 1 1 one_val (lit< tt) in
    let pt : T (positive top) = positive_of_value top 672 1 top_val (lit< tt) in
    let pz : T (positive z) = between one z top po pt lo hi in
    let px : T (positive x) = by_four x (subst (λ (y : Float). T (positive (mul binary64 x y))) four_is pz) in
    let v : HasValue z false (num x * 4) (den x) = product x f px (small x px pz hi) in
    let w : HasValue (round binary64 false n 1) false n 1 = round_whole binary64 false n l in
    let e : num x * 4 ≡ n * den x =
    same_fraction (num (round binary64 false n 1)) (den (round binary64 false n 1)) (num z) (den z) (num x * 4) (den x) n (den_pos (round binary64 false n 1)) (den_pos z)
    (eq→cross (round binary64 false n 1) z pz t) (value→cross (round binary64 false n 1) n 1 w) (value→cross z (num x * 4) (den x) v) in
    let v2 : HasValue z false (n * den x) (den x) = subst (λ (y : ℕ). HasValue z false y (den x)) e v in
    let a : 1 * den x ≤ n * den x = subst (λ (y : ℕ). 1 * den x ≤ y) (mul-one (n * den x)) (values_of_le one z 1 1 (n * den x) (den x) po pz one_val v2 lo) in
    let b : n * den x ≤ 672 * den x = subst (λ (y : ℕ). y ≤ 672 * den x) (mul-one (n * den x)) (values_of_le z top (n * den x) (den x) 672 1 pz pt v2 top_val hi) in
    (le_of_mul-le-mul_right a (den_pos x), le_of_mul-le-mul_right b (den_pos x), has x px e)
  where
    has : (x : Float) → T (positive x) → num x * 4 ≡ n * den x → HasValue x false n 4
    has nan p e = absurd p
    has (inf s) p e = absurd p
    has (fin true m k) p e = absurd p
    has (fin false m k) p e = (refl, e)

-- a whole count of quarters in range passes each test
pub passing : (x : Float) (q : ℕ) → (1 ≤ q) × (q ≤ 672) × HasValue x false q 4
    → T (le one (mul binary64 x four)) × T (le (mul binary64 x four) top) × (to_unsigned 16 (mul binary64 x four) ≡ q) × T (eq (of_int binary64 (pos q)) (mul binary64 x four))
unfolding of_int in_float
passing x q h =
    let r = round binary64 false q 1 in
    let l : q ≤ 2 ^ 53 = le_trans h.1 (lit≤ tt) in
    let s : q < 2 ^ 16 = lt_of_le_of_lt h.1 (lit< tt) in
    let w : HasValue r false q 1 = round_whole binary64 false q l in
    let p : T (positive r) = positive_of_value r q 1 w h.0 in
    let back = unsigned_back binary64 16 q (le→leb q (2 ^ 53) l) s in
    subst (λ (z : Float). T (le one z) × T (le z top) × (to_unsigned 16 z ≡ q) × T (eq r z)) (sym (four_times x q h.0 h.2)) (
      le_of_values one r 1 1 q 1 (lit< tt) (lit< tt) one_val w (subst (λ (y : ℕ). 1 ≤ y) (sym (mul-one q)) h.0),
      le_of_values r top q 1 672 1 (lit< tt) (lit< tt) w top_val (subst (λ (y : ℕ). y ≤ 672) (sym (mul-one q)) h.1),
      back.1,
      eq_refl r p,
    )
