use Rattle.std.proofs.Common.{◌≡◌, ◌∙◌, Some, None, sym, rules, find, bytes_eq}
use Rattle.std.proofs.lemmas.Int.{to_z-of_z, ints}
use Rattle.darwin_walk.specs.Spine.{env_of}
use Rattle.darwin_walk.proofs.NamedLemmas.{value-found, value-not_found}
use Rattle.darwin_walk.proofs.environment.Environment.value_of.Goals as goal

pub returns-in-Some : goal.returns-in-Some
returns-in-Some c =
    let s = c.args.self.now in
    let name = c.args.name.now in
    let v = c.in-Some.parameter.now in
    let found : find (λ x. bytes_eq name x.name.now) s.parameters.now ≡ Some v =
    sym (s.found name) ∙ search (rules, c.get.ensures.value, c.in-Some.is, c.as_bytes.ensures) in
    rw (value-found s.parameters.now (env_of s.variables.now) name v found) (search (rules, ints, to_z-of_z))

pub returns-in-None : goal.returns-in-None
returns-in-None c =
    let s = c.args.self.now in
    let name = c.args.name.now in
    let found : find (λ x. bytes_eq name x.name.now) s.parameters.now ≡ None =
    sym (s.found name) ∙ search (rules, c.get.ensures.value, c.in-None.is, c.as_bytes.ensures) in
    rw (value-not_found s.parameters.now (env_of s.variables.now) name found) (search (rules, ints, to_z-of_z))
