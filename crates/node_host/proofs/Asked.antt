-- An inbox was asked, whatever it answered; and one that was asked after hints were posted was asked since before.
use Rattle.std.proofs.Common.{inl, inr, ◌≤◌, ℕ, Option, Some, None, arith, subst}
use Rattle.base.specs.Count.{Rose}
use Rattle.port_queue.specs.Inboxes.{Counts, CountsNext}
use Rattle.node_host.specs.Trying.{IsAsked, IsGrown, LookedAt}

rose_since : (a b c : ℕ) → a ≤ b → Rose b c → Rose a c
rose_since a b c few rose = (omega (arith, few, rose.0), λ short. grind (arith, few, rose.0, rose.1, short))

pub asked_since : (a b c : Counts) → IsGrown a b → LookedAt b c → IsAsked a c
asked_since a b c grown (inl refused) = inl (rose_since a.refused b.refused c.refused grown.0 refused.refused)
asked_since a b c grown (inr gave) = inr (subst (λ k. Rose k c.given) grown.1 gave.1.given)

pub looked : (old new : Counts) (hint : Option ℕ) → CountsNext old hint new → LookedAt old new
looked old new None h = inl h
looked old new (Some p) h = inr (p, h)
