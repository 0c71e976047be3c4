-- The bytes of paths: where the names of instances are written in letters, digits and `_`, a path is written in these, full stops
-- and indexes in brackets.
use Rattle.std.proofs.Common.{length, ◌+◌, get_or, ◌<◌, ◌≡◌, ◌≢◌, ℕ, zero, suc, ◌/◌, ◌%◌, ◌||◌, eqb, Bool, true, false, cond, ℤ, pos, negsuc, List, [], ◌∷◌, ◌++◌, All, Option, Some, None, refl, sym, subst, arith, codes}
use Rattle.std.specs.List.{AllPass, Contains}
use Rattle.std.specs.Str.{bytes_eq}
use Rattle.std.specs.Fmt.{decimal, digits, digits_onto, digit_glyph, signed_decimal}
use Rattle.std.specs.Char.{is_ascii_digit}
use Rattle.std.proofs.Math.Nat.{mod-lt}
use Rattle.std.proofs.lemmas.Bool.{cond-true, false≢true, lt-ltb, or_right}
use Rattle.std.proofs.lemmas.Bool.Decides.{nat_tests}
use Rattle.std.proofs.lemmas.Option.{slice_get-get_or}
use Rattle.std.proofs.lemmas.List.Elements.{All-append, All-cons}
use Rattle.base.proofs.ContainsLaws.{Contains-at, Contains-from_filter_map, Contains-nil}
use Rattle.base.proofs.FindLaws.{Contains-find}
use Rattle.base.proofs.OptionLaws.{made_of_two}
use Rattle.config_graph.specs.Graph.{Graph}
use Rattle.config_graph.specs.GraphText.{IsOneWord, graph_text}
use Rattle.config_graph.specs.Sound.{Sound}
use Rattle.config_graph.proofs.TextLaws.{same_from_text}
use Rattle.config_graph.specs.declared.node.Node.{Node}
use Rattle.darwin_lexer.specs.Keywords.{begins_name, continues_name}
use Rattle.darwin_lexer.specs.Tokens.{IsTokens}
use Rattle.darwin_lexer.specs.declared.token.Token.{Token}
use Rattle.darwin_parser.specs.Grammar.{IsUnit}
use Rattle.darwin_parser.specs.Tree.{Name, Component, Tree}
use Rattle.darwin_types.specs.Scope.{component_named}
use Rattle.darwin_walk.specs.Value.{parameters}
use Rattle.darwin_walk.specs.Instance.{Segment, Child, children}
use Rattle.elaborator.specs.PathBytes.{is_path_byte}
use Rattle.elaborator.specs.Paths.{Path, index_bytes, segment_bytes, within}
use Rattle.elaborator.specs.Instances.{Instance, Inst, at_top, below, child_path, children_in, instance_of, is_expanded, made_in}
use Rattle.elaborator.specs.Elaboration.{ElaboratesTo}
use Rattle.elaborator.proofs.ElaborationLemmas.{top_parts}
use Rattle.elaborator.proofs.NameLaws.{IsComponentSpelled, child_named, tree_spelled}
use Rattle.elaborator.proofs.NameLemmas.{IsNameText, tokens_spelled}
use Rattle.elaborator.proofs.NodeLemmas.{node_path}

-- ---- bytes

abbrev IsPathText : List ℕ → Type 0
IsPathText bytes = AllPass is_path_byte bytes

first_holds : (a b c d e : Bool) → a ≡ true → (a || b || c || d || e) ≡ true
first_holds true b c d e is = refl
first_holds false b c d e is = absurd (false≢true is)

name_byte : (b : ℕ) → continues_name b ≡ true → is_path_byte b ≡ true
name_byte b is = first_holds (continues_name b) (eqb b 46) (eqb b 91) (eqb b 93) (eqb b 45) is

name_is_path : (bytes : List ℕ) → IsNameText bytes → IsPathText bytes
name_is_path bytes all k d low = name_byte (get_or bytes k d) (all k d low)

joined : (xs ys : List ℕ) → IsPathText xs → IsPathText ys → IsPathText (xs ++ ys)
joined xs ys first second = All-append (λ b. is_path_byte b ≡ true) xs ys first second

onto : (b : ℕ) (bytes : List ℕ) → is_path_byte b ≡ true → IsPathText bytes → IsPathText (b ∷ bytes)
onto b bytes here later = All-cons (λ b. is_path_byte b ≡ true) b bytes here later

no_bytes : IsPathText []
no_bytes k d low = absurd (omega arith)

digit_byte : (d : ℕ) → d < 10 → is_path_byte (digit_glyph false d) ≡ true
digit_byte d low =
    let digit : is_ascii_digit (48 + d) ≡ true = grind (arith, nat_tests) in
    let glyph : digit_glyph false d ≡ 48 + d = cond-true _ _ _ (lt-ltb d 10 low) in
    subst (λ b. is_path_byte b ≡ true) (sym glyph) (name_byte (48 + d) (or_right (begins_name (48 + d)) (is_ascii_digit (48 + d)) digit))

digits_are : (k n : ℕ) (rest : List ℕ) → IsPathText rest → IsPathText (digits_onto k 10 false n rest)
digits_are zero n rest all = all
digits_are (suc k) n rest all =
    let more = onto (digit_glyph false (n % 10)) rest (digit_byte (n % 10) (mod-lt n (omega arith))) all in
    by (eqb (n / 10) 0) more (digits_are k (n / 10) (digit_glyph false (n % 10) ∷ rest) more)
  where
    by :
        (b : Bool) → IsPathText (digit_glyph false (n % 10) ∷ rest) → IsPathText (digits_onto k 10 false (n / 10) (digit_glyph false (n % 10) ∷ rest))
        → IsPathText (cond b (digit_glyph false (n % 10) ∷ rest) (digits_onto k 10 false (n / 10) (digit_glyph false (n % 10) ∷ rest)))
    by true here later = here
    by false here later = later

decimal_is : (n : ℕ) → IsPathText (decimal n)
unfolding digits
decimal_is n = digits_are 64 n [] no_bytes

signed_is : (z : ℤ) → IsPathText (signed_decimal z)
signed_is (pos n) = decimal_is n
signed_is (negsuc n) = onto 45 (decimal (suc n)) refl (decimal_is (suc n))

index_is : (index : Option ℤ) → IsPathText (index_bytes index)
index_is None = no_bytes
index_is (Some z) = onto 91 (signed_decimal z ++ codes "]") refl (joined (signed_decimal z) (codes "]") (signed_is z) (onto 93 [] refl no_bytes))

segment_is : (s : Segment) → IsNameText s.name → IsPathText (segment_bytes s)
segment_is s named = joined s.name (index_bytes s.index) (name_is_path s.name named) (index_is s.index)

within_is : (path : Path) (s : Segment) → IsPathText path → IsNameText s.name → IsPathText (within path s)
within_is [] s before named = segment_is s named
within_is (b ∷ path) s before named =
    joined ((b ∷ path) ++ codes ".") (segment_bytes s) (joined (b ∷ path) (codes ".") before (onto 46 [] refl no_bytes)) (segment_is s named)

byte_of_word : (b : ℕ) → is_path_byte b ≡ true → (b ≢ 32) × (b ≢ 10)
byte_of_word b is = (
  λ blank. false≢true (subst (λ c. is_path_byte c ≡ true) blank is),
  λ line. false≢true (subst (λ c. is_path_byte c ≡ true) line is),
)

-- ---- instances

children_there : (i : Instance) (child : Child) → Contains (children_in i) child → Contains (children i.component i.env) child
children_there i child there = by (is_expanded i) there
  where
    by : (b : Bool) → Contains (cond b (children i.component i.env) []) child → Contains (children i.component i.env) child
    by true there = there
    by false there = absurd (Contains-nil child there)

-- an instance whose path is written so, of a component of the tree
record IsWritten (tree : Tree) (i : Instance) : Type 0 where
  path : IsPathText i.path
  component : Contains tree i.component

-- the instance that a child is, by its component and its arguments
abbrev instance_by : Instance → Child → Component → List ℤ → Instance
instance_by i child c arguments = record { path = child_path i child; depth = suc i.depth; component = c; env = parameters c arguments }

module _ (text : List ℕ) (tree : Tree) (spelled : (c : Component) → Contains tree c → IsComponentSpelled IsNameText text c) where
  written_below : (i j : Instance) → IsWritten tree i → Contains (made_in tree i) j → IsWritten tree j
  written_below i j before there =
      let w = Contains-from_filter_map (instance_of tree i) (children_in i) j there in
      let child : Child = w.0 in
      let parts = made_of_two (instance_by i child) (component_named tree child.component) child.arguments j w.2 in
      let named = child_named IsNameText text i.component i.env child (spelled i.component before.component) (children_there i child w.1) in
      record {
        path = subst (λ (x : Instance). IsPathText x.path) parts.4 (within_is i.path child.segment before.path named);
        component = subst (λ (x : Instance). Contains tree x.component) parts.4 (Contains-find (λ c. bytes_eq child.component c.name) tree parts.0 parts.2);
      }

  written : (top i : Instance) → IsWritten tree top → Inst tree top i → IsWritten tree i
  written top _ first at_top = first
  written top _ first (below i j inst there) = written_below i j (written top i first inst) there

pub paths_written : (text : List ℕ) (tokens : List Token) (tree : Tree) (name : Name) (arguments : List ℤ) (g : Graph)
    → IsTokens text tokens → IsUnit text tokens tree → ElaboratesTo tree name arguments g → All (λ n. IsPathText n.path) g.nodes
paths_written text tokens tree name arguments g parted unit elab k d low =
    let n : Node = get_or g.nodes k d in
    let is = (elab.is_elab.nodes_are n).0 (Contains-at g.nodes k n (slice_get-get_or g.nodes k d low)) in
    let start = top_parts tree name arguments elab.top elab.is_top in
    let first : IsWritten tree elab.top = subst (IsWritten tree) (sym start.is_top)
    (record { path = no_bytes; component = Contains-find (λ c. bytes_eq name c.name) tree start.component start.named }) in
    let here = written text tree (tree_spelled IsNameText text tokens tree (tokens_spelled text 0 (length text) tokens parted) unit) elab.top is.instance first is.is_instance in
    subst IsPathText (sym (node_path is.instance n is.is_node)) here.path

pub paths_one_word : (nodes : List Node) → All (λ n. IsPathText n.path) nodes → All (λ n. IsOneWord n.path) nodes
paths_one_word nodes all k d low j b within = byte_of_word (get_or (get_or nodes k d).path j b) (all k d low j b within)

-- graphs of texts are told by their texts
pub texts_tell : (text other : List ℕ) (tokens others : List Token) (tree another : Tree) (name top : Name) (arguments values : List ℤ) (g h : Graph)
    → IsTokens text tokens → IsUnit text tokens tree → ElaboratesTo tree name arguments g → Sound g
    → IsTokens other others → IsUnit other others another → ElaboratesTo another top values h → Sound h
    → graph_text g ≡ graph_text h → g ≡ h
texts_tell text other tokens others tree another name top arguments values g h parted unit elab sound parted' unit' elab' sound' same =
    same_from_text g h sound sound'
    (paths_one_word g.nodes (paths_written text tokens tree name arguments g parted unit elab))
    (paths_one_word h.nodes (paths_written other others another top values h parted' unit' elab')) same
