-- What a door counts after one of its keys was used.
use Rattle.std.proofs.Common.{◌≡◌, ◌∙◌, ℕ, zero, suc, ◌<◌, List, [], ◌∷◌, length, map, set, Option, Some, None, sym, ap, subst, arith}
use Rattle.std.specs.Prelude.{MatchOption, slice_index_or, slice_set}
use Rattle.std.proofs.lemmas.List.{map-set}
use Rattle.base.specs.Count.{Rose}
use Rattle.base.proofs.PairedLaws.{seen_same}
use Rattle.live_hall.specs.Doors.{missed}
use Rattle.live_hall.specs.declared.guest.Guest.{Guest}
use Rattle.live_hall.specs.declared.lock.Lock.{Lock}

missed_at : (ls : List Lock) (n : ℕ) (l : Lock) → n < length ls → l ≡ slice_index_or ls n l → slice_index_or (map missed ls) n 0 ≡ l.missed
missed_at [] n l within is = absurd (omega arith)
missed_at (x ∷ xs) zero l within is = ap missed (sym is)
missed_at (x ∷ xs) (suc n) l within is = missed_at xs n l (omega arith) is

pub taken : (F : Guest → Type 0) (ls : List Lock) (counts : List ℕ) (n : ℕ) (l new : Lock) (r : Option Guest) → counts ≡ map missed ls → n < length ls → l ≡ slice_index_or ls n l
    → MatchOption r (Rose l.missed new.missed) (λ node. F node × (new.missed ≡ l.missed))
    → MatchOption r ((m : ℕ) × Rose (slice_index_or counts n 0) m × (map missed (set ls n new) ≡ slice_set counts n m)) (λ node. F node × (map missed (set ls n new) ≡ counts))
taken F ls counts n l new None is within at h = (
  new.missed,
  subst (λ m. Rose m new.missed) (sym (missed_at ls n l within at) ∙ ap (λ c. slice_index_or c n 0) (sym is)) h,
  map-set missed ls n new ∙ ap (λ c. slice_set c n new.missed) (sym is),
)
taken F ls counts n l new (Some node) is within at h = (h.0, seen_same missed ls n l new at h.1 ∙ sym is)
