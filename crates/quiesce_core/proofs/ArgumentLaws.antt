-- What rule 19 says of a node's argument, and that kinds of one number are one.
use Rattle.std.proofs.Common.{◌≡◌, ℕ, ◌<◌, ◌^◌, Bool, true, false, cond, Option, Some, None, refl, sym, ap, ◌∙◌, slice_get}
use Rattle.std.specs.Prelude.{is_none, is_some, IfSome}
use Rattle.std.specs.Option.{option_map_or}
use Rattle.std.proofs.lemmas.Bool.{both_ways, ltb-true, eqb-true}
use Rattle.quiesce_core.specs.Rules.{is_value, value_limit, is_kind}
use Rattle.std.proofs.lemmas.Option.{same_Some}
use Rattle.config_graph.specs.Kinds.{row, kinds}
use Rattle.config_graph.specs.declared.kind.Kind.{Kind}
use Rattle.config_graph.proofs.KindLaws.{kind_at_number}

-- an argument is there exactly where it has to be, and has its room
pub argument_fits : (there : Bool) (arg : Option ℕ) → cond there (option_map_or is_value arg false) (is_none arg) ≡ true → (is_some arg ≡ there) × IfSome arg (λ a. a < 2 ^ 24)
argument_fits true None h = absurd (both_ways false refl h)
argument_fits true (Some a) h = (refl, ltb-true a value_limit h)
argument_fits false None h = (refl, tt)
argument_fits false (Some a) h = absurd (both_ways false refl h)

pub kinds_are_one : (j k : Kind) → is_kind j k ≡ true → j ≡ k
kinds_are_one j k h = same_Some j k (sym (kind_at_number j) ∙ ap (slice_get kinds) (eqb-true (row j).number (row k).number h) ∙ kind_at_number k)
