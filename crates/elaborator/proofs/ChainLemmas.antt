-- Where chains lead.
use Rattle.std.proofs.Common.{◌≡◌, ℕ, zero, suc, ◌+◌, ◌-◌, ◌<◌, List, Some, None, refl, sym, arith}
use Rattle.elaborator.specs.PortIndex.{chain_target, chain_end}
use Rattle.elaborator.specs.declared.chains.PortId.{PortId}

-- a port that is no source is its own end
pub end_of-last : (n : ℕ) (pairs : List (PortId × PortId)) (x : PortId) → chain_target pairs x ≡ None → chain_end n pairs x ≡ x
unfolding chain_end
end_of-last zero pairs x e = refl
end_of-last (suc n) pairs x e = rw e refl

-- a source has the end of its target
pub end_of-source : (n : ℕ) (pairs : List (PortId × PortId)) (x y : PortId) → chain_target pairs x ≡ Some y → chain_end (suc n) pairs x ≡ chain_end n pairs y
unfolding chain_end
end_of-source n pairs x y e = rw e refl

-- one step of n
pub end_of-step :
    (n k : ℕ) (pairs : List (PortId × PortId)) (x y : PortId) → k < n → chain_target pairs x ≡ Some y
    → chain_end (n - (k + 1)) pairs y ≡ chain_end (n - k) pairs x
end_of-step n k pairs x y below e =
    let steps : n - k ≡ suc (n - (k + 1)) = omega arith in
    rw steps (sym (end_of-source (n - (k + 1)) pairs x y e))
