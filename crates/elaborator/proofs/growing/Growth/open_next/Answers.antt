use Rattle.std.proofs.Common.{◌≡◌, ◌++◌, refl, sym, subst, set, length, length-set, arith}
use Rattle.std.proofs.lemmas.Option.{slice_get_read}
use Rattle.darwin_parser.specs.Tree.{tree_of}
use Rattle.elaborator.specs.Paths.{Path}
use Rattle.elaborator.specs.ExpansionFaults.{GrowthFault}
use Rattle.elaborator.specs.Growth.{IsClash}
use Rattle.elaborator.specs.declared.error.ElabError.TheVariants.{TwoInstances}
use Rattle.base.proofs.AnswerLaws.{Answers-exit}
use Rattle.elaborator.proofs.MappedLemmas.{mapped-set}
use Rattle.elaborator.proofs.ExpandLemmas.{clash-next, growth-next}
use Rattle.elaborator.proofs.growing.Growth.open_next.Goals as goal
use Rattle.base.proofs.PlaceLaws.{slice_get-there}

pub returns-in_err-found : goal.returns-in_err-found
returns-in_err-found c = λ top growth.
    let g = c.args.self.now in
    let next = slice_get-there g.expansion.instances.items g.opened c.requires.within in
    Answers-exit _ _ c.from_residual.ensures.1 (λ f cause. cause) (c.in_err-found.ensures top next.0 growth next.1)

pub add_all-requires-clause-mapped : goal.add_all-requires-clause-mapped
add_all-requires-clause-mapped c =
    let g = c.args.self.now in
    let x = c.index_mut-next.result.now in
    let at = slice_get_read g.expansion.instances.items _ g.opened x refl c.requires.within c.index_mut-next.ensures.value in
    mapped-set g.expansion _ g.opened x (record x { bindings = c.in_ok-found.found.bindings; port_sizes = c.in_ok-found.found.port_sizes }) c.requires.growth.1.mapped at refl refl refl

pub add_all-requires-clause-few : goal.add_all-requires-clause-few
add_all-requires-clause-few c =
    let g = c.args.self.now in
    let x = c.index_mut-next.result.now in
    let at = slice_get_read g.expansion.instances.items _ g.opened x refl c.requires.within c.index_mut-next.ensures.value in
    let found = (c.in_ok-found.ensures c.requires.growth.0 x c.requires.growth.1 at).2 in
    omega (
      arith,
      found.few,
      found.within,
      c.requires.growth.1.few,
      length-set g.expansion.instances.items g.opened (record x { bindings = c.in_ok-found.found.bindings; port_sizes = c.in_ok-found.found.port_sizes }),
    )

pub returns-in_err-add_all : goal.returns-in_err-add_all
returns-in_err-add_all c = λ top growth.
    let g = c.args.self.now in
    let x = c.index_mut-next.result.now in
    let y = record x { bindings = c.in_ok-found.found.bindings; port_sizes = c.in_ok-found.found.port_sizes } in
    let items = set g.expansion.instances.items g.opened y in
    let at = slice_get_read g.expansion.instances.items _ g.opened x refl c.requires.within c.index_mut-next.ensures.value in
    let found = (c.in_ok-found.ensures top x growth at).2 in
    Answers-exit {Cause = λ f. (path : Path) × (f ≡ TwoInstances path) × IsClash (items ++ c.in_ok-found.found.made.items) (length items) path} _ _ c.from_residual-in_err-add_all.ensures.1 (λ f cause.
    subst (GrowthFault (tree_of g.expansion.directory.unit.now) top) (sym cause.1)
    (clash-next top g x y c.in_ok-found.found cause.0 growth at refl found cause.2)) c.in_err-add_all.ensures

pub overflow_sub-self : goal.overflow_sub-self
overflow_sub-self c =
    let g = c.args.self.now in
    let x = c.index_mut-next.result.now in
    let at = slice_get_read g.expansion.instances.items _ g.opened x refl c.requires.within c.index_mut-next.ensures.value in
    (c.in_ok-found.ensures c.requires.growth.0 x c.requires.growth.1 at).2.within

pub returns : goal.returns
returns c = λ top growth.
    let g = c.args.self.now in
    let x = c.index_mut-next.result.now in
    let y = record x { bindings = c.in_ok-found.found.bindings; port_sizes = c.in_ok-found.found.port_sizes } in
    let at = slice_get_read g.expansion.instances.items _ g.opened x refl c.requires.within c.index_mut-next.ensures.value in
    let shown = c.in_ok-found.ensures top x growth at in
    let extended = c.in_ok-add_all.ensures in (
      extended.same_unit,
      refl,
      growth-next top g _ x y c.in_ok-found.found
          (record {
            growth = growth;
            at = at;
            same = refl;
            told = growth.told g.opened x at;
            shown = record { bindings = shown.2.bindings; sizes = shown.2.sizes };
            shallow = shown.0;
            faultless = shown.1;
            found = shown.2;
            same_unit = extended.same_unit;
            grown = extended.instances;
            mapped = extended.mapped;
            opened = refl;
            room = omega (arith, shown.2.within);
          }),
    )
