use Rattle.darwin_walk.proofs.walking.element_arguments_at.Goals as goal

pub returns-in-Some-default : goal.returns-in-Some-default
returns-in-Some-default c = rw (c.in-Some-default.is-0, ← c.deref.ensures.value) c.values_at.ensures

pub returns-in-None-Some : goal.returns-in-None-Some
returns-in-None-Some c =
    rw (c.in-None-Some.is-0, c.in-None-Some.is-1, ← c.deref-in-None-Some.ensures.value) c.values_at-in-None-Some.ensures
