-- The word of a port: its fields have their room, stand at their bits, and are spelt by the word.
use Rattle.std.proofs.Common.{◌≡◌, ℕ, ◌+◌, ◌*◌, ◌^◌, ◌<◌, Bool, true, false, Option, Some, None, [], ◌∷◌, refl, ap, sym, ◌∙◌, arith}
use Rattle.std.specs.Prelude.{◌==◌, option_map}
use Rattle.config_graph.specs.declared.node.Target.{Target}
use Rattle.quiesce_word.specs.declared.phase.Phase.{Phase}
use Rattle.quiesce_word.specs.declared.phase.Phase.TheVariants as phase
use Rattle.quiesce_word.specs.declared.word.Word.{Word}
use Rattle.quiesce_word.specs.Packs.{FitIn, bits, spell}
use Rattle.quiesce_word.specs.Words.{FitsTarget, FitsWord, fields, flag, pack, phase_bits, phase_of, provide_bits, slot_bits, target_of, unpack, widths}
use Rattle.quiesce_word.proofs.PackLaws.{field, one_less_again}

-- each field has its room

phase_few : (p : Phase) → phase_bits p < 4
phase_few phase.Idle = omega arith
phase_few phase.Asked = omega arith
phase_few phase.Answered = omega arith
phase_few phase.More = omega arith

flag_few : (b : Bool) → flag b < 2
flag_few true = omega arith
flag_few false = omega arith

slot_few : (t : Option Target) → ((u : Target) → t ≡ Some u → FitsTarget u) → slot_bits t < 1024
slot_few None h = omega arith
slot_few (Some t) h = omega (arith, (h t refl).node)

provide_few : (t : Option Target) → ((u : Target) → t ≡ Some u → FitsTarget u) → provide_bits t < 4
provide_few None h = omega arith
provide_few (Some t) h = (h t refl).provide

pub fields_fit : (w : Word) → FitsWord w → FitIn widths (fields w)
fields_fit w f = (
  f.value,
  (
    f.serial,
    (
      provide_few w.target f.target,
      (
        slot_few w.target f.target,
        (flag_few w.consequent, (phase_few w.phase, (flag_few w.closed, tt))),
      ),
    ),
  ),
)

-- each field stands at its bits

pub record StandAtTheirBits (n v s x t c p d : ℕ) : Type 0 where
  pub value : bits 0 23 n ≡ v
  pub serial : bits 24 47 n ≡ s
  pub provide : bits 48 49 n ≡ x
  pub slot : bits 50 59 n ≡ t
  pub consequent : bits 60 60 n ≡ c
  pub phase : bits 61 62 n ≡ p
  pub closed : bits 63 63 n ≡ d

stand : (v s x t c p d : ℕ) → FitIn widths (v ∷ s ∷ x ∷ t ∷ c ∷ p ∷ d ∷ [])
    → StandAtTheirBits (spell widths (v ∷ s ∷ x ∷ t ∷ c ∷ p ∷ d ∷ [])) v s x t c p d
stand v s x t c p d f =
    let v_fits : v < 2 ^ 24 = f.0 in
    let s_fits : s < 2 ^ 24 = f.1.0 in
    let x_fits : x < 2 ^ 2 = f.1.1.0 in
    let t_fits : t < 2 ^ 10 = f.1.1.1.0 in
    let c_fits : c < 2 ^ 1 = f.1.1.1.1.0 in
    let p_fits : p < 2 ^ 2 = f.1.1.1.1.1.0 in
    let d_fits : d < 2 ^ 1 = f.1.1.1.1.1.1.0 in
    record {
      value = field _ (2 ^ 0) (2 ^ 24) 0 v (s + 2 ^ 24 * (x + 2 ^ 2 * (t + 2 ^ 10 * (c + 2 * (p + 4 * d))))) (omega arith) (omega arith) v_fits;
      serial = field _ (2 ^ 24) (2 ^ 24) v s (x + 2 ^ 2 * (t + 2 ^ 10 * (c + 2 * (p + 4 * d)))) (omega arith) (omega arith) s_fits;
      provide = field _ (2 ^ 48) (2 ^ 2) (v + 2 ^ 24 * s) x (t + 2 ^ 10 * (c + 2 * (p + 4 * d))) (omega arith) (omega arith) x_fits;
      slot = field _ (2 ^ 50) (2 ^ 10) (v + 2 ^ 24 * s + 2 ^ 48 * x) t (c + 2 * (p + 4 * d)) (omega arith) (omega arith) t_fits;
      consequent = field _ (2 ^ 60) (2 ^ 1) (v + 2 ^ 24 * s + 2 ^ 48 * x + 2 ^ 50 * t) c (p + 4 * d) (omega arith) (omega arith) c_fits;
      phase = field _ (2 ^ 61) (2 ^ 2) (v + 2 ^ 24 * s + 2 ^ 48 * x + 2 ^ 50 * t + 2 ^ 60 * c) p d (omega arith) (omega arith) p_fits;
      closed = field _ (2 ^ 63) (2 ^ 1) (v + 2 ^ 24 * s + 2 ^ 48 * x + 2 ^ 50 * t + 2 ^ 60 * c + 2 ^ 61 * p) d 0 (omega arith) (omega arith) d_fits;
    }

pub fields_stand : (w : Word) → FitsWord w
    → StandAtTheirBits (pack w) w.value w.serial (provide_bits w.target) (slot_bits w.target) (flag w.consequent) (phase_bits w.phase) (flag w.closed)
fields_stand w f =
    stand w.value w.serial (provide_bits w.target) (slot_bits w.target) (flag w.consequent) (phase_bits w.phase) (flag w.closed) (fields_fit w f)

-- the word spells its fields

phase_again : (p : Phase) → phase_of (phase_bits p) ≡ p
phase_again phase.Idle = refl
phase_again phase.Asked = refl
phase_again phase.Answered = refl
phase_again phase.More = refl

flag_again : (b : Bool) → (flag b == 1) ≡ b
flag_again true = refl
flag_again false = refl

target_again : (t : Option Target) → target_of (slot_bits t) (provide_bits t) ≡ t
target_again None = refl
target_again (Some t) = ap (option_map (λ n. record { node = n; provide = t.provide })) (one_less_again (Some t.node))

pub words_decode : (w : Word) → FitsWord w → unpack (pack w) ≡ w
words_decode w f =
    let at = fields_stand w f in
    whole (unpack (pack w)) w
    (ap (λ k. k == 1) at.closed ∙ flag_again w.closed)
    (ap phase_of at.phase ∙ phase_again w.phase)
    (ap (λ k. k == 1) at.consequent ∙ flag_again w.consequent)
    (ap (λ k. target_of k (bits 48 49 (pack w))) at.slot ∙ ap (target_of (slot_bits w.target)) at.provide ∙ target_again w.target)
    at.serial at.value
  where
    whole : (u w : Word) → u.closed ≡ w.closed → u.phase ≡ w.phase → u.consequent ≡ w.consequent → u.target ≡ w.target
        → u.serial ≡ w.serial → u.value ≡ w.value → u ≡ w
    whole u w a b c d e f = λ i. record { closed = a i; phase = b i; consequent = c i; target = d i; serial = e i; value = f i }

pub words_differ : (v w : Word) → FitsWord v → FitsWord w → pack v ≡ pack w → v ≡ w
words_differ v w f g same = sym (words_decode v f) ∙ ap unpack same ∙ words_decode w g
