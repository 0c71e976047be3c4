use Rattle.std.proofs.Common.{sym, subst, ◌∙◌, cond, []}
use Rattle.darwin_types.specs.Check.{Judges, primitive_faults}
use Rattle.darwin_types.specs.Within.{component_in}
use Rattle.darwin_types.proofs.declared.Declared.check_kind.Goals as goal

pub returns-then-is_primitive : goal.returns-then-is_primitive
returns-then-is_primitive c =
    subst (λ b. Judges (cond b (primitive_faults (component_in c.args.self.now)) []) c.check_primitive.result) (sym c.if-is_primitive.true ∙ c.requires) c.check_primitive.ensures
