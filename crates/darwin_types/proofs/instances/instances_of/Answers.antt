use Rattle.std.proofs.Common.{sym, ap, ◌∙◌, map, [], ◌++◌, bytes_eq}
use Rattle.std.specs.List.{flat_map}
use Rattle.std.specs.Map.{lookup}
use Rattle.darwin_parser.specs.Tree.{component_of, array_of, entry_of}
use Rattle.darwin_types.specs.Scope.{single_of}
use Rattle.darwin_types.proofs.Lookups.{SameLookups_after}
use Rattle.darwin_types.proofs.instances.instances_of.Goals as goal
use Rattle.base.proofs.MapLaws.{map-map}

pub returns : goal.returns
returns c x =
    let k = component_of c.args.component.now in
    let arrays = c.args.component.now.arrays.items in
    let declared = rw (c.new-instances.ensures, c.as_slice.ensures.value) at c.in_ok-declare_arrays.ensures in
    let names = sym (map-map (λ a. (a.name, a.component)) array_of arrays) in
    let found = SameLookups_after c.declare_entries.new.instances c.declare_arrays.new.instances [] (map (λ a. (a.name, a.component)) arrays) (flat_map single_of (map (λ e. entry_of e.now) c.args.entries.now)) declared c.in_ok-declare_entries.ensures x in
    found ∙ ap (λ ps. lookup (bytes_eq x) (ps ++ flat_map single_of (map (λ e. entry_of e.now) c.args.entries.now))) names ∙ ap (λ es. lookup (bytes_eq x) (map (λ a. (a.name, a.component)) k.arrays ++ flat_map single_of es)) c.requires
