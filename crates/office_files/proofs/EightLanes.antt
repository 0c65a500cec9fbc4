-- Eight digits in the bytes of a word, joined two by two, then four by four.
use Rattle.std.proofs.Common.{◌≡◌, ℕ, ◌+◌, ◌-◌, ◌*◌, ◌/◌, ◌%◌, ◌^◌, ◌<◌, List, [], ◌∷◌, length, refl, ap, ◌∙◌, arith, rules}
use Rattle.std.proofs.Math.Nat.{add_comm, mul_comm, mod-eq_of_lt}
use Rattle.std.specs.Int.Bits.{bit_and}
use lib.Arith.{digits_div, digits_mod}
use lib.Bits.{and_block, and_mask, and_zero_r}
use lib.Lanes.{number_l, zip2}
use Rattle.core.specs.Dec2flt.Digits.{IsEightDigits}
use Rattle.core.specs.Int.Digits.{number_from_digits, AllBelowBase}

turned : (b x n : ℕ) → x + b * n ≡ n * b + x
turned b x n = add_comm x (b * n) ∙ ap (λ m. m + x) (mul_comm b n)

-- a mask is applied lane by lane
lanes : (k : ℕ) (xs ms : List ℕ) → length xs ≡ length ms → AllBelowBase (2 ^ k) xs
    → AllBelowBase (2 ^ k) ms
    → bit_and (number_l (2 ^ k) xs) (number_l (2 ^ k) ms) ≡ number_l (2 ^ k) (zip2 bit_and xs ms)
lanes k [] [] e h g = refl
lanes k [] (m ∷ ms) e h g = absurd (omega arith)
lanes k (x ∷ xs) [] e h g = absurd (omega arith)
lanes k (x ∷ xs) (m ∷ ms) e h g =
    search (rules, lanes k xs ms (omega arith) h.1 g.1, and_block, number_l, turned)

-- four or eight digits below a base
four : (n a b c d : ℕ) → a < n → b < n → c < n → d < n → AllBelowBase n (a ∷ b ∷ c ∷ d ∷ [])
four n a b c d A B C D = (A, (B, (C, (D, tt))))

eight : (n a b c d f g i j : ℕ) → a < n → b < n → c < n → d < n → f < n → g < n → i < n → j < n
    → AllBelowBase n (a ∷ b ∷ c ∷ d ∷ f ∷ g ∷ i ∷ j ∷ [])
eight n a b c d f g i j A B C D F G I J = (A, (B, (C, (D, (F, (G, (I, (J, tt))))))))

low : (x : ℕ) (k : ℕ) → x < 2 ^ k → bit_and x (2 ^ k - 1) ≡ x
low x k h = and_mask x k ∙ mod-eq_of_lt h

-- what the masks and multiplications make of a word
abbrev worth : ℕ → ℕ
worth word =
    let digits = bit_and word 0x0f0f_0f0f_0f0f_0f0f in
    let pairs = bit_and (digits * 10 + digits / 256) 0x00ff_00ff_00ff_00ff in
    let fours = bit_and (pairs * 100 + pairs / 65536) 0x0000_ffff_0000_ffff in
    bit_and (fours * 10000 + fours / 2 ^ 32) 0xffff_ffff

-- neighbours of eight lanes of 8 bits, each below 100, as four lanes of 16 bits
pairs_kept : (p x q y r z s w : ℕ) → p < 100 → x < 100 → q < 100 → y < 100 → r < 100 → z < 100 → s < 100
    → w < 100
    → bit_and (number_l 256 (p ∷ x ∷ q ∷ y ∷ r ∷ z ∷ s ∷ w ∷ [])) 0x00ff_00ff_00ff_00ff
    ≡ number_l 65536 (p ∷ q ∷ r ∷ s ∷ [])
pairs_kept p x q y r z s w P X Q Y R Z S W =
    lanes 8 (p ∷ x ∷ q ∷ y ∷ r ∷ z ∷ s ∷ w ∷ []) (255 ∷ 0 ∷ 255 ∷ 0 ∷ 255 ∷ 0 ∷ 255 ∷ 0 ∷ []) refl
    (eight 256 p x q y r z s w (omega arith) (omega arith) (omega arith) (omega arith)
    (omega arith) (omega arith) (omega arith) (omega arith))
    (eight 256 255 0 255 0 255 0 255 0 (omega arith) (omega arith) (omega arith) (omega arith)
    (omega arith) (omega arith) (omega arith) (omega arith))
    ∙ (λ n. number_l 256 (low p 8 (omega arith) n ∷ and_zero_r x n ∷ low q 8 (omega arith) n ∷ and_zero_r y n
    ∷ low r 8 (omega arith) n ∷ and_zero_r z n ∷ low s 8 (omega arith) n ∷ and_zero_r w n ∷ []))
    ∙ omega arith

fours_kept : (p x q y : ℕ) → p < 10000 → x < 10000 → q < 10000 → y < 10000
    → bit_and (number_l 65536 (p ∷ x ∷ q ∷ y ∷ [])) 0x0000_ffff_0000_ffff ≡ q * 2 ^ 32 + p
fours_kept p x q y P X Q Y =
    lanes 16 (p ∷ x ∷ q ∷ y ∷ []) (65535 ∷ 0 ∷ 65535 ∷ 0 ∷ []) refl
    (four 65536 p x q y (omega arith) (omega arith) (omega arith) (omega arith))
    (four 65536 65535 0 65535 0 (omega arith) (omega arith) (omega arith) (omega arith))
    ∙ (λ n. number_l 65536 (low p 16 (omega arith) n ∷ and_zero_r x n ∷ low q 16 (omega arith) n
    ∷ and_zero_r y n ∷ []))
    ∙ omega arith

digits_kept : (a b c d f g i j : ℕ) → a < 10 → b < 10 → c < 10 → d < 10 → f < 10 → g < 10 → i < 10 → j < 10
    → bit_and (number_l 256 (a ∷ b ∷ c ∷ d ∷ f ∷ g ∷ i ∷ j ∷ [])) 0x0f0f_0f0f_0f0f_0f0f
    ≡ number_l 256 (a ∷ b ∷ c ∷ d ∷ f ∷ g ∷ i ∷ j ∷ [])
digits_kept a b c d f g i j A B C D F G I J =
    lanes 8 (a ∷ b ∷ c ∷ d ∷ f ∷ g ∷ i ∷ j ∷ []) (15 ∷ 15 ∷ 15 ∷ 15 ∷ 15 ∷ 15 ∷ 15 ∷ 15 ∷ []) refl
    (eight 256 a b c d f g i j (omega arith) (omega arith) (omega arith) (omega arith)
    (omega arith) (omega arith) (omega arith) (omega arith))
    (eight 256 15 15 15 15 15 15 15 15 (omega arith) (omega arith) (omega arith) (omega arith)
    (omega arith) (omega arith) (omega arith) (omega arith))
    ∙ (λ n. number_l 256 (low a 4 (omega arith) n ∷ low b 4 (omega arith) n ∷ low c 4 (omega arith) n
    ∷ low d 4 (omega arith) n ∷ low f 4 (omega arith) n ∷ low g 4 (omega arith) n
    ∷ low i 4 (omega arith) n ∷ low j 4 (omega arith) n ∷ []))

-- pairs of digits as lanes of 16 bits, joined to fours and then to the eight
joined : (p q r s pairs : ℕ) → p < 100 → q < 100 → r < 100 → s < 100
    → pairs ≡ number_l 65536 (p ∷ q ∷ r ∷ s ∷ [])
    → (let fours = bit_and (pairs * 100 + pairs / 65536) 0x0000_ffff_0000_ffff in
    bit_and (fours * 10000 + fours / 2 ^ 32) 0xffff_ffff) ≡ p * 1000000 + q * 10000 + r * 100 + s
joined p q r s pairs P Q R S are =
    let rest = number_l 65536 (q ∷ r ∷ s ∷ []) in
    let small : p < 65536 = omega arith in
    let parts : pairs ≡ rest * 65536 + p = omega arith in
    let down : pairs / 65536 ≡ rest = ap (λ n. n / 65536) parts ∙ digits_div rest small in
    let sum : pairs * 100 + pairs / 65536
    ≡ number_l 65536 ((p * 100 + q) ∷ (q * 100 + r) ∷ (r * 100 + s) ∷ (s * 100) ∷ []) = rw down (omega arith) in
    let first = p * 100 + q in
    let second = r * 100 + s in
    let fours : bit_and (pairs * 100 + pairs / 65536) 0x0000_ffff_0000_ffff ≡ second * 2 ^ 32 + first =
    ap (λ n. bit_and n 0x0000_ffff_0000_ffff) sum
    ∙ fours_kept _ _ _ _ (omega arith) (omega arith) (omega arith) (omega arith) in
    let lower : first < 2 ^ 32 = omega arith in
    let value = first * 10000 + second in
    let fits : value < 2 ^ 32 = omega arith in
    let all : (second * 2 ^ 32 + first) * 10000 + second ≡ second * 10000 * 2 ^ 32 + value = omega arith in
    (λ n. bit_and (fours n * 10000 + fours n / 2 ^ 32) 0xffff_ffff)
    ∙ ap (λ n. bit_and ((second * 2 ^ 32 + first) * 10000 + n) 0xffff_ffff) (digits_div second lower)
    ∙ and_mask ((second * 2 ^ 32 + first) * 10000 + second) 32
    ∙ ap (λ n. n % 2 ^ 32) all ∙ digits_mod (second * 10000) fits ∙ omega arith

-- eight digits, the first in the lowest byte, give their number
pub eight_is : (ds : List ℕ) (word : ℕ) → IsEightDigits ds → word ≡ number_l 256 ds
    → worth word ≡ number_from_digits 10 ds
eight_is [] word h e = absurd (omega arith)
eight_is (a ∷ []) word h e = absurd (omega arith)
eight_is (a ∷ b ∷ []) word h e = absurd (omega arith)
eight_is (a ∷ b ∷ c ∷ []) word h e = absurd (omega arith)
eight_is (a ∷ b ∷ c ∷ d ∷ []) word h e = absurd (omega arith)
eight_is (a ∷ b ∷ c ∷ d ∷ f ∷ []) word h e = absurd (omega arith)
eight_is (a ∷ b ∷ c ∷ d ∷ f ∷ g ∷ []) word h e = absurd (omega arith)
eight_is (a ∷ b ∷ c ∷ d ∷ f ∷ g ∷ i ∷ []) word h e = absurd (omega arith)
eight_is (a ∷ b ∷ c ∷ d ∷ f ∷ g ∷ i ∷ j ∷ k ∷ ds) word h e = absurd (omega arith)
eight_is (a ∷ b ∷ c ∷ d ∷ f ∷ g ∷ i ∷ j ∷ []) word h e =
    let rest = number_l 256 (b ∷ c ∷ d ∷ f ∷ g ∷ i ∷ j ∷ []) in
    let kept = ap (λ n. bit_and n 0x0f0f_0f0f_0f0f_0f0f) e
    ∙ digits_kept a b c d f g i j (omega arith) (omega arith) (omega arith) (omega arith) (omega arith)
    (omega arith) (omega arith) (omega arith) in
    let small : a < 256 = omega arith in
    let parts : number_l 256 (a ∷ b ∷ c ∷ d ∷ f ∷ g ∷ i ∷ j ∷ []) ≡ rest * 256 + a = omega arith in
    let down = ap (λ n. n / 256) (kept ∙ parts) ∙ digits_div rest small in
    let sum : bit_and word 0x0f0f_0f0f_0f0f_0f0f * 10 + bit_and word 0x0f0f_0f0f_0f0f_0f0f / 256
    ≡ number_l 256 ((10 * a + b) ∷ (10 * b + c) ∷ (10 * c + d) ∷ (10 * d + f) ∷ (10 * f + g) ∷ (10 * g + i)
    ∷ (10 * i + j) ∷ (10 * j) ∷ []) = rw (down, kept) (omega arith) in
    let pairs = ap (λ n. bit_and n 0x00ff_00ff_00ff_00ff) sum
    ∙ pairs_kept _ _ _ _ _ _ _ _ (omega arith) (omega arith) (omega arith) (omega arith) (omega arith)
    (omega arith) (omega arith) (omega arith) in
    joined _ _ _ _ _ (omega arith) (omega arith) (omega arith) (omega arith) pairs ∙ omega arith
