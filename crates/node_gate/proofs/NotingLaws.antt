-- Events that are of no port of a node's own leave what it knows of its ports.
use Rattle.std.proofs.Common.{◌≡◌, ℕ, ◌+◌, Bool, true, false, List, [], ◌∷◌, true≢false, refl, ap, ◌∙◌}
use Rattle.quiesce_core.specs.declared.event.Event.{Event}
use Rattle.quiesce_core.specs.declared.event.Event.TheVariants.{Begin, Call, Take, Give, End, More, Ask, Hear, Miss, Close, Reopen, Make, Link, Unlink, Remove}
use Rattle.quiesce_core.specs.declared.known.PortKnown.{PortKnown}
use Rattle.quiesce_core.specs.Knowledge.{port_known_next, ports_known_next}

abbrev pub is_of_own_port : Event → Bool
is_of_own_port (Begin p k v) = true
is_of_own_port (Call p k v) = true
is_of_own_port (Ask p k v) = true
is_of_own_port (End p k v) = true
is_of_own_port _ = false

next_stays : (p : ℕ) (w : PortKnown) (e : Event) → is_of_own_port e ≡ false → port_known_next p w e ≡ w
next_stays p w (Begin q k v) is = absurd (true≢false is)
next_stays p w (Call q k v) is = absurd (true≢false is)
next_stays p w (Ask q k v) is = absurd (true≢false is)
next_stays p w (End q k v) is = absurd (true≢false is)
next_stays p w (Take q k v) is = refl
next_stays p w (Give q k v) is = refl
next_stays p w (More q k v) is = refl
next_stays p w (Hear q k v) is = refl
next_stays p w (Miss q) is = refl
next_stays p w (Close q) is = refl
next_stays p w (Reopen q) is = refl
next_stays p w (Make n node from) is = refl
next_stays p w (Link q n x) is = refl
next_stays p w (Unlink q) is = refl
next_stays p w (Remove n) is = refl

pub ports_stay : (p : ℕ) (ws : List PortKnown) (e : Event) → is_of_own_port e ≡ false → ports_known_next p ws e ≡ ws
ports_stay p [] e is = refl
ports_stay p (w ∷ ws) e is =
    ap (λ next. next ∷ ports_known_next (p + 1) ws e) (next_stays p w e is) ∙ ap (λ rest. w ∷ rest) (ports_stay (p + 1) ws e is)
