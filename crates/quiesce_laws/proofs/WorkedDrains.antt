-- The definitions on small runs, evaluated.
use Rattle.std.proofs.Common.{◌≡◌, [], ◌∷◌, ◌++◌, None, refl}
use Rattle.quiesce_core.specs.declared.event.Event.TheVariants.{Begin, Call, Take}
use Rattle.quiesce_core.specs.Reach.{reaches, has_no_cycle}
use Rattle.quiesce_core.specs.Rest.{full}
use Rattle.quiesce_core.specs.Runs.{state_after}
use Rattle.quiesce_laws.specs.Belongs.{belongs, open_in, singleton}
use Rattle.quiesce_laws.specs.Drain.{rest_of, count_of}
use Rattle.quiesce_laws.specs.Worked.{rests, denials, pair, served, unlinked, missed, chain, called, adding, replied}

pub pair_allowed : denials (state_after []) (pair ++ Begin 0 1 7 ∷ served) ≡ None ∷ None ∷ None ∷ None ∷ None ∷ None ∷ None ∷ None ∷ []
unfolding has_no_cycle reaches
pair_allowed = refl

pub pair_rests : rests (state_after pair) (Begin 0 1 7 ∷ served) ≡ 3 ∷ 2 ∷ 1 ∷ 0 ∷ []
unfolding full
pair_rests = refl

pub pair_counts : count_of (open_in (state_after (pair ++ Begin 0 1 7 ∷ []))) (state_after (pair ++ Begin 0 1 7 ∷ [])) (served ++ Begin 0 2 7 ∷ Take 0 2 7 ∷ []) ≡ 3
unfolding belongs
pair_counts = refl

pub missed_rests : rests (state_after unlinked) missed ≡ 4 ∷ 3 ∷ 2 ∷ 1 ∷ 0 ∷ []
unfolding full
missed_rests = refl

pub missed_counts : count_of (singleton 1 1) (state_after unlinked) missed ≡ 4
unfolding belongs
missed_counts = refl

pub chain_rests : rests (state_after chain) (Begin 1 1 7 ∷ called) ≡ 7 ∷ 6 ∷ 5 ∷ 4 ∷ 3 ∷ 2 ∷ 1 ∷ 0 ∷ []
unfolding full
chain_rests = refl

pub chain_counts : count_of (singleton 1 1) (state_after (chain ++ Begin 1 1 7 ∷ [])) called ≡ 7
unfolding belongs
chain_counts = refl

pub call_counts : count_of (singleton 0 1) (state_after (chain ++ Begin 1 1 7 ∷ [])) called ≡ 3
unfolding belongs
call_counts = refl

pub chain_part : rest_of (singleton 1 1) (state_after (chain ++ Begin 1 1 7 ∷ Take 1 1 7 ∷ Call 0 1 8 ∷ [])) ≡ 5
unfolding full belongs
chain_part = refl

pub call_part : rest_of (singleton 0 1) (state_after (chain ++ Begin 1 1 7 ∷ Take 1 1 7 ∷ Call 0 1 8 ∷ [])) ≡ 3
unfolding full belongs
call_part = refl

pub link_adds : full (state_after unlinked).config 1 0 ∷ full (state_after chain).config 1 0 ∷ [] ≡ 4 ∷ 7 ∷ []
unfolding full
link_adds = refl

pub replied_rests : rests (state_after adding) replied ≡ 6 ∷ 5 ∷ 4 ∷ 3 ∷ 2 ∷ 1 ∷ 0 ∷ []
unfolding full
replied_rests = refl
