-- Words are parted where the first `--` stands.
use Rattle.std.proofs.Common.{◌≡◌, ◌+◌, ◌<◌, ◌≤◌, ℕ, zero, suc, Bool, true, false, not, cond, List, [], ◌∷◌, map, length, take, drop, codes, bytes_eq, refl, ap, arith}
use Rattle.std.specs.List.{AllByRecursion, prefix_len}
use Rattle.command_words.specs.CommandLine.{is_part}
use Rattle.command_words.proofs.Asking.{IsPart, Parted}
use Rattle.base.proofs.BytesLaws.{different_bytes, same_bytes}

part_is : (word : List ℕ) → is_part word ≡ true → IsPart word
part_is word is = by (bytes_eq word (codes "--")) refl is
  where
    by : (b : Bool) → bytes_eq word (codes "--") ≡ b → not b ≡ true → IsPart word
    by true same is = cc
    by false other is = different_bytes word (codes "--") other

parts_is : (word : List ℕ) → is_part word ≡ false → word ≡ codes "--"
parts_is word is = by (bytes_eq word (codes "--")) refl is
  where
    by : (b : Bool) → bytes_eq word (codes "--") ≡ b → not b ≡ false → word ≡ codes "--"
    by true same is = same_bytes word (codes "--") same
    by false other is = cc

module _ {A : Type 0} (f : A → List ℕ) where
  -- where one of them is found
  pub parted_by : (xs : List A) (n m : ℕ) → n ≡ prefix_len (λ x. is_part (f x)) xs → m ≡ n + 1 → n < length xs → Parted (map f xs) (map f (take n xs)) (map f (drop m xs))
  parted_by [] n m n_is m_is low = absurd (omega (arith, low))
  parted_by (x ∷ xs) n m n_is m_is low = by (λ k l. parted_by xs k l) (is_part (f x)) refl n m n_is m_is low
    where
      by : ((k l : ℕ) → k ≡ prefix_len (λ x. is_part (f x)) xs → l ≡ k + 1 → k < length xs → Parted (map f xs) (map f (take k xs)) (map f (drop l xs))) → (b : Bool) → is_part (f x) ≡ b → (n m : ℕ) → n ≡ cond b (1 + prefix_len (λ x. is_part (f x)) xs) 0 → m ≡ n + 1 → n < length (x ∷ xs)
          → Parted (map f (x ∷ xs)) (map f (take n (x ∷ xs))) (map f (drop m (x ∷ xs)))
      by again false is zero zero n_is m_is low = absurd (omega (arith, m_is))
      by again false is zero (suc zero) n_is m_is low = record { parted = ap (λ w. w ∷ map f xs) (parts_is (f x) is); first = tt }
      by again false is zero (suc (suc m)) n_is m_is low = absurd (omega (arith, m_is))
      by again false is (suc n) m n_is m_is low = absurd (omega (arith, n_is))
      by again true is zero m n_is m_is low = absurd (omega (arith, n_is))
      by again true is (suc n) zero n_is m_is low = absurd (omega (arith, m_is))
      by again true is (suc n) (suc m) n_is m_is low =
          let rest = again n m (omega (arith, n_is)) (omega (arith, m_is)) (omega (arith, low)) in
          record { parted = ap (λ ws. f x ∷ ws) rest.parted; first = (part_is (f x) is, rest.first) }

  -- where none is found
  pub parted_nowhere : (xs : List A) (n : ℕ) → n ≡ prefix_len (λ x. is_part (f x)) xs → length xs ≤ n → AllByRecursion IsPart (map f xs)
  parted_nowhere [] n n_is high = tt
  parted_nowhere (x ∷ xs) n n_is high = by (λ k. parted_nowhere xs k) (is_part (f x)) refl n n_is high
    where
      by : ((k : ℕ) → k ≡ prefix_len (λ x. is_part (f x)) xs → length xs ≤ k → AllByRecursion IsPart (map f xs)) → (b : Bool) → is_part (f x) ≡ b → (n : ℕ) → n ≡ cond b (1 + prefix_len (λ x. is_part (f x)) xs) 0 → length (x ∷ xs) ≤ n → AllByRecursion IsPart (map f (x ∷ xs))
      by again false is n n_is high = absurd (omega (arith, n_is, high))
      by again true is zero n_is high = absurd (omega (arith, n_is))
      by again true is (suc n) n_is high = (part_is (f x) is, again n (omega (arith, n_is)) (omega (arith, high)))
