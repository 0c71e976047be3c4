-- The text of parts is cut again where a line begins with `part`, or where `done` or `pending` ends it: no line of a plan
-- begins so.
use Rattle.std.proofs.Common.{◌≡◌, ◌∙◌, ℕ, zero, suc, ◌+◌, ◌/◌, ◌%◌, ◌^◌, ◌<◌, Bool, true, false, cond, not, List, [], ◌∷◌, ◌++◌, append_assoc, Option, Some, None, refl, sym, ap, arith}
use Rattle.std.specs.Prelude.{◌==◌, ◌&&◌, ◌||◌, IfSome, codes, decimal, flat_map, slice_get}
use Rattle.std.specs.Fmt.{digit_glyph, digits, digits_onto}
use Rattle.std.specs.List.{list_all}
use Rattle.std.specs.Option.{option_map_or}
use Rattle.std.proofs.lemmas.Bool.{and_parts, both_ways, cond-true, eq-eqb, lt-ltb, ne_eqb, not-true}
use Rattle.std.proofs.lemmas.List.{append-nil, append_cancel_left}
use Rattle.std.proofs.lemmas.List.Elements.{All-cons, All-contains, All-head, All-nil, All-tail}
use Rattle.std.proofs.lemmas.List.Folds.{list_all-append}
use Rattle.std.proofs.Math.Nat.{mod-lt}
use Rattle.std.proofs.lemmas.Fmt.{decimal_injective}
use Rattle.base.proofs.ContainsLaws.{Contains-at}
use Rattle.config_graph.specs.Graph.{Graph}
use Rattle.config_graph.specs.GraphText.{IsOneWord, end_text, graph_text, kind_text, provide_name, require_name}
use Rattle.config_graph.specs.Kinds.{row}
use Rattle.config_graph.specs.declared.kind.Kind.{Kind}
use Rattle.config_graph.specs.declared.kind.Kind.TheVariants.{Philosopher, Place, Fork, Source, Map, Buffer, Sink, Teller, Branch, Account, Asker, Adder}
use Rattle.config_graph.specs.declared.node.Link.{Link}
use Rattle.config_graph.specs.declared.node.Node.{Node}
use Rattle.config_graph.specs.declared.node.Port.{Port}
use Rattle.config_graph.proofs.TextLaws.{Free, provide_name_line, require_name_line, split_first}
use Rattle.change_plan.specs.PlanText.{at_node, create_line, link_line, plan_text, port_text, provision_text, step_line, unlink_line}
use Rattle.change_plan.specs.declared.plan_data.Plan.{Plan}
use Rattle.change_parts.specs.declared.part.Part.{Part}
use Rattle.command_answers.specs.PartTexts.{end_line, part_line, parts_text_from, roll_text}
use Rattle.result_laws.specs.PartTelling.{HasWordPaths, HaveWordPaths, plan_texts}

-- ---- texts of lines that begin otherwise

-- `part`, `pending` and `done`
stops : ℕ → Bool
stops b = b == 112 || b == 100

-- the lines before the first that begins so
front : Bool → List ℕ → List ℕ
front at [] = []
front true (b ∷ bs) = cond (stops b) [] (b ∷ front (b == 10) bs)
front false (b ∷ bs) = b ∷ front (b == 10) bs

-- whether each line begins otherwise, and the last one ends
plain : Bool → List ℕ → Bool
plain at [] = at
plain true (b ∷ bs) = not (stops b) && plain (b == 10) bs
plain false (b ∷ bs) = plain (b == 10) bs

halts : List ℕ → Bool
halts [] = true
halts (b ∷ bs) = stops b

front_is : (at : Bool) (xs rest : List ℕ) → plain at xs ≡ true → halts rest ≡ true → front at (xs ++ rest) ≡ xs
unfolding front plain halts
front_is true [] [] p h = refl
front_is false [] rest p h = absurd (both_ways false refl p)
front_is true [] (b ∷ rest) p h = ap (λ c. cond c [] (b ∷ front (b == 10) rest)) h
front_is true (b ∷ xs) rest p h =
    let w = and_parts (not (stops b)) (plain (b == 10) xs) p in
    ap (λ c. cond c [] (b ∷ front (b == 10) (xs ++ rest))) (not-true (stops b) w.0) ∙ ap (λ ys. b ∷ ys) (front_is (b == 10) xs rest w.1 h)
front_is false (b ∷ xs) rest p h = ap (λ ys. b ∷ ys) (front_is (b == 10) xs rest p h)

plain_both : (at : Bool) (xs ys : List ℕ) → plain at xs ≡ true → plain true ys ≡ true → plain at (xs ++ ys) ≡ true
unfolding plain
plain_both true [] ys h k = k
plain_both false [] ys h k = absurd (both_ways false refl h)
plain_both true (x ∷ xs) ys h k = let w = and_parts (not (stops x)) (plain (x == 10) xs) h in (λ i. w.0 i && plain (x == 10) (xs ++ ys)) ∙ plain_both (x == 10) xs ys w.1 k
plain_both false (x ∷ xs) ys h k = plain_both (x == 10) xs ys h k

plain_all : {A : Type 0} (f : A → List ℕ) → ((a : A) → plain true (f a) ≡ true) → (xs : List A) → plain true (flat_map f xs) ≡ true
unfolding plain
plain_all f h [] = refl
plain_all f h (x ∷ xs) = plain_both true (f x) (flat_map f xs) (h x) (plain_all f h xs)

-- ---- texts within a line

-- without a line feed
abbrev within_line : List ℕ → Bool
within_line xs = list_all (λ b. not (b == 10)) xs

both_within : (xs ys : List ℕ) → within_line xs ≡ true → within_line ys ≡ true → within_line (xs ++ ys) ≡ true
both_within xs ys h k = list_all-append (λ b. not (b == 10)) xs ys ∙ (λ i. h i && k i)

free_within : (xs : List ℕ) → Free 10 xs → within_line xs ≡ true
free_within [] f = refl
free_within (x ∷ xs) f = (λ i. not (ne_eqb x 10 (All-head (λ b. ¬ (b ≡ 10)) x xs f) i) && within_line xs) ∙ free_within xs (All-tail (λ b. ¬ (b ≡ 10)) x xs f)

-- behind the first byte of a line
line_end : (xs : List ℕ) → within_line xs ≡ true → plain false (xs ++ 10 ∷ []) ≡ true
unfolding plain
line_end [] h = refl
line_end (x ∷ xs) h =
    let w = and_parts (not (x == 10)) (within_line xs) h in ap (λ c. plain c (xs ++ 10 ∷ [])) (not-true (x == 10) w.0) ∙ line_end xs w.1

digit_within : (d : ℕ) → d < 10 → not (digit_glyph false d == 10) ≡ true
digit_within d low =
    let glyph : digit_glyph false d ≡ 48 + d = cond-true _ _ _ (lt-ltb d 10 low) in
    ap (λ b. not b) (ne_eqb (digit_glyph false d) 10 (λ same. omega (arith, same, glyph)))

digits_within : (k n : ℕ) (rest : List ℕ) → within_line rest ≡ true → within_line (digits_onto k 10 false n rest) ≡ true
digits_within zero n rest all = all
digits_within (suc k) n rest all =
    let more = (λ i. digit_within (n % 10) (mod-lt n (omega arith)) i && within_line rest) ∙ all in by (n / 10 == 0) more (digits_within k (n / 10) (digit_glyph false (n % 10) ∷ rest) more)
  where
    by : (b : Bool) → within_line (digit_glyph false (n % 10) ∷ rest) ≡ true → within_line (digits_onto k 10 false (n / 10) (digit_glyph false (n % 10) ∷ rest)) ≡ true
        → within_line (cond b (digit_glyph false (n % 10) ∷ rest) (digits_onto k 10 false (n / 10) (digit_glyph false (n % 10) ∷ rest))) ≡ true
    by true here later = here
    by false here later = later

number_within : (n : ℕ) → within_line (decimal n) ≡ true
unfolding digits
number_within n = digits_within 64 n [] refl

kind_within : (k : Kind) (arg : Option ℕ) → within_line (kind_text k arg) ≡ true
kind_within k arg =
    both_within ((row k).name ++ codes "(" ++ option_map_or decimal arg []) (codes ")")
    (both_within ((row k).name ++ codes "(") (option_map_or decimal arg []) (both_within (row k).name (codes "(") (name k) refl) (argument arg)) refl
  where
    name : (k : Kind) → within_line (row k).name ≡ true
    name Philosopher = refl
    name Place = refl
    name Fork = refl
    name Source = refl
    name Map = refl
    name Buffer = refl
    name Sink = refl
    name Teller = refl
    name Branch = refl
    name Account = refl
    name Asker = refl
    name Adder = refl

    argument : (o : Option ℕ) → within_line (option_map_or decimal o []) ≡ true
    argument None = refl
    argument (Some n) = number_within n

-- ---- texts of a graph's nodes

module _ (g : Graph) (words : HasWordPaths g) where
  node_within : (text : Node → List ℕ) → ((n : Node) → within_line n.path ≡ true → within_line (text n) ≡ true) → (i : ℕ) → within_line (at_node text g i) ≡ true
  node_within text h i = by (slice_get g.nodes i) refl
    where
      by : (o : Option Node) → slice_get g.nodes i ≡ o → within_line (option_map_or text (slice_get g.nodes i) []) ≡ true
      by None is = ap (λ o. within_line (option_map_or text o [])) is
      by (Some n) is =
          let word = All-contains (λ (m : Node). IsOneWord m.path) g.nodes n words (Contains-at g.nodes i n is) in
          ap (λ o. within_line (option_map_or text o [])) is ∙ h n (free_within n.path (λ k d low. (word k d low).1))

  path_within : (i : ℕ) → within_line (at_node (λ n. n.path) g i) ≡ true
  path_within i = node_within (λ n. n.path) (λ n h. h) i

  port_within : (i r : ℕ) → within_line (port_text g i r) ≡ true
  port_within i r = node_within (λ n. end_text n.path (require_name n.kind r)) (λ n h.
      both_within (n.path ++ codes ".") (require_name n.kind r) (both_within n.path (codes ".") h refl) (free_within (require_name n.kind r) (require_name_line n.kind r))) i

  provision_within : (i x : ℕ) → within_line (provision_text g i x) ≡ true
  provision_within i x = node_within (λ n. end_text n.path (provide_name n.kind x)) (λ n h.
      both_within (n.path ++ codes ".") (provide_name n.kind x) (both_within n.path (codes ".") h refl) (free_within (provide_name n.kind x) (provide_name_line n.kind x))) i

  created_within : (i : ℕ) → within_line (at_node (λ n. n.path ++ codes " " ++ kind_text n.kind n.arg) g i) ≡ true
  created_within i = node_within (λ n. n.path ++ codes " " ++ kind_text n.kind n.arg) (λ n h.
      both_within (n.path ++ codes " ") (kind_text n.kind n.arg) (both_within n.path (codes " ") h refl) (kind_within n.kind n.arg)) i

  -- ---- lines of a plan

  freeze_plain : (i : ℕ) → plain true (step_line (codes "freeze ") g i) ≡ true
  unfolding plain stops
  freeze_plain i = line_end (at_node (λ n. n.path) g i) (path_within i)

  remove_plain : (i : ℕ) → plain true (step_line (codes "remove ") g i) ≡ true
  unfolding plain stops
  remove_plain i = line_end (at_node (λ n. n.path) g i) (path_within i)

  unlink_plain : (p : Port) → plain true (unlink_line g p) ≡ true
  unfolding plain stops
  unlink_plain p = line_end (port_text g p.node p.require) (port_within p.node p.require)

  create_plain : (i : ℕ) → plain true (create_line g i) ≡ true
  unfolding plain stops
  create_plain i = line_end (at_node (λ n. n.path ++ codes " " ++ kind_text n.kind n.arg) g i) (created_within i)

  link_plain : (l : Link) → plain true (link_line g l) ≡ true
  unfolding plain stops
  link_plain l =
      line_end (port_text g l.from l.require ++ codes " " ++ provision_text g l.to l.provide)
      (both_within (port_text g l.from l.require ++ codes " ") (provision_text g l.to l.provide) (both_within (port_text g l.from l.require) (codes " ") (port_within l.from l.require) refl) (provision_within l.to l.provide))

plan_plain : (old new : Graph) (p : Plan) → HasWordPaths old → HasWordPaths new → plain true (plan_text old new p) ≡ true
plan_plain old new p old_words new_words =
    let freezes = flat_map (step_line (codes "freeze ") old) p.freeze in
    let unlinks = flat_map (unlink_line old) p.unlink in
    let removes = flat_map (step_line (codes "remove ") old) p.remove in
    let creates = flat_map (create_line new) p.create in
    let links = flat_map (link_line new) p.link in
    plain_both true (freezes ++ unlinks ++ removes ++ creates) links
    (plain_both true (freezes ++ unlinks ++ removes) creates
    (plain_both true (freezes ++ unlinks) removes
    (plain_both true freezes unlinks (plain_all (step_line (codes "freeze ") old) (freeze_plain old old_words) p.freeze) (plain_all (unlink_line old) (unlink_plain old old_words) p.unlink))
    (plain_all (step_line (codes "remove ") old) (remove_plain old old_words) p.remove))
    (plain_all (create_line new) (create_plain new new_words) p.create))
    (plain_all (link_line new) (link_plain new new_words) p.link)

-- ---- parts, and what stands behind them

record EndsParts (rest : List ℕ) : Type 0 where
  stops_there : halts rest ≡ true
  no_part : (number : ℕ) (more_ : List ℕ) → rest ≡ part_line number ++ more_ → ⊥

parts_halt : (number : ℕ) (before : Graph) (ps : List Part) (rest : List ℕ) → halts rest ≡ true → halts (parts_text_from number before ps ++ rest) ≡ true
unfolding halts stops
parts_halt number before [] rest h = h
parts_halt number before (p ∷ ps) rest h = refl

words_of : (before : Graph) (ps : List Part) → HaveWordPaths before ps → HasWordPaths before
words_of before [] words = words
words_of before (p ∷ ps) words = words.0

part_split : (number : ℕ) (t rest ys : List ℕ) → (part_line number ++ t ++ rest) ++ ys ≡ part_line number ++ (t ++ (rest ++ ys))
part_split number t rest ys = append_assoc (part_line number ++ t) rest ys ∙ append_assoc (part_line number) t (rest ++ ys)

same_plans : (number : ℕ) (a b : Graph) (ps qs : List Part) (xs ys : List ℕ) → HaveWordPaths a ps → HaveWordPaths b qs → EndsParts xs → EndsParts ys
    → parts_text_from number a ps ++ xs ≡ parts_text_from number b qs ++ ys → (plan_texts a ps ≡ plan_texts b qs) × (xs ≡ ys)
same_plans number a b [] [] xs ys u v end_x end_y same = (refl, same)
same_plans number a b [] (q ∷ qs) xs ys u v end_x end_y same =
    absurd (end_x.no_part number (plan_text b q.next q.plan ++ (parts_text_from (suc number) q.next qs ++ ys)) (same ∙ part_split number (plan_text b q.next q.plan) (parts_text_from (suc number) q.next qs) ys))
same_plans number a b (p ∷ ps) [] xs ys u v end_x end_y same =
    absurd (end_y.no_part number (plan_text a p.next p.plan ++ (parts_text_from (suc number) p.next ps ++ xs)) (sym same ∙ part_split number (plan_text a p.next p.plan) (parts_text_from (suc number) p.next ps) xs))
same_plans number a b (p ∷ ps) (q ∷ qs) xs ys u v end_x end_y same =
    let one_ = plan_text a p.next p.plan in
    let two_ = plan_text b q.next q.plan in
    let left = parts_text_from (suc number) p.next ps ++ xs in
    let right = parts_text_from (suc number) q.next qs ++ ys in
    let behind : one_ ++ left ≡ two_ ++ right =
    append_cancel_left (part_line number) (one_ ++ left) (two_ ++ right)
    (sym (part_split number one_ (parts_text_from (suc number) p.next ps) xs) ∙ same ∙ part_split number two_ (parts_text_from (suc number) q.next qs) ys) in
    let first : one_ ≡ two_ =
    sym (front_is true one_ left (plan_plain a p.next p.plan u.0 (words_of p.next ps u.1)) (parts_halt (suc number) p.next ps xs end_x.stops_there))
    ∙ ap (front true) behind
    ∙ front_is true two_ right (plan_plain b q.next q.plan v.0 (words_of q.next qs v.1)) (parts_halt (suc number) q.next qs ys end_y.stops_there) in
    let later = same_plans (suc number) p.next q.next ps qs xs ys u.1 v.1 end_x end_y (append_cancel_left two_ left right (ap (λ t. t ++ left) (sym first) ∙ behind)) in
    (λ i. first i ∷ later.0 i, later.1)

nothing_ends : EndsParts []
unfolding halts
nothing_ends = record { stops_there = refl; no_part = λ number more_ h. cc h }

-- the line of the end begins with `d`, or with `pe`
second : List ℕ → ℕ
second (a ∷ b ∷ bs) = b
second _ = 0

end_ends : (given_up : Option ℕ) (left : Graph) → EndsParts (end_line given_up ++ graph_text left)
unfolding halts stops second
end_ends None left = record { stops_there = refl; no_part = λ number more_ h. absurd (omega (arith, ap second h)) }
end_ends (Some n) left = record { stops_there = refl; no_part = λ number more_ h. absurd (omega (arith, ap second h)) }

pub part_texts_tell : (a b : Graph) (ps qs : List Part) → HaveWordPaths a ps → HaveWordPaths b qs → parts_text_from 1 a ps ≡ parts_text_from 1 b qs → plan_texts a ps ≡ plan_texts b qs
part_texts_tell a b ps qs u v same = (same_plans 1 a b ps qs [] [] u v nothing_ends nothing_ends (append-nil (parts_text_from 1 a ps) ∙ same ∙ sym (append-nil (parts_text_from 1 b qs)))).0

-- ---- how a roll ended

free_if : (xs : List ℕ) → within_line xs ≡ true → Free 10 xs
free_if [] h = All-nil (λ b. ¬ (b ≡ 10))
free_if (x ∷ xs) h =
    let w = and_parts (not (x == 10)) (within_line xs) h in
    All-cons (λ b. ¬ (b ≡ 10)) x xs (λ same. both_ways (x == 10) (not-true (x == 10) w.0) (eq-eqb x 10 same)) (free_if xs w.1)

same_end : (o p : Option ℕ) (x y : List ℕ) → IfSome o (λ n. n < 2 ^ 64) → IfSome p (λ n. n < 2 ^ 64) → end_line o ++ x ≡ end_line p ++ y → (o ≡ p) × (x ≡ y)
unfolding second
same_end None None x y low low' same = (refl, append_cancel_left (codes "done\n") x y same)
same_end None (Some n) x y low low' same = absurd (omega (arith, ap second same))
same_end (Some n) None x y low low' same = absurd (omega (arith, ap second same))
same_end (Some n) (Some m) x y low low' same =
    let left : (codes "pending " ++ decimal n ++ codes "\n") ++ x ≡ codes "pending " ++ (decimal n ++ 10 ∷ x) = append_assoc (codes "pending " ++ decimal n) (codes "\n") x ∙ append_assoc (codes "pending ") (decimal n) (10 ∷ x) in
    let right : (codes "pending " ++ decimal m ++ codes "\n") ++ y ≡ codes "pending " ++ (decimal m ++ 10 ∷ y) = append_assoc (codes "pending " ++ decimal m) (codes "\n") y ∙ append_assoc (codes "pending ") (decimal m) (10 ∷ y) in
    let behind = append_cancel_left (codes "pending ") (decimal n ++ 10 ∷ x) (decimal m ++ 10 ∷ y) (sym left ∙ same ∙ right) in
    let parts = split_first 10 (decimal n) (decimal m) x y (free_if (decimal n) (number_within n)) (free_if (decimal m) (number_within m)) behind in
    (ap Some (decimal_injective n m low low' parts.0), parts.1)

module _ (a b : Graph) (ps qs : List Part) (given_up other : Option ℕ) (left right : Graph) (u : HaveWordPaths a ps) (v : HaveWordPaths b qs) (same : roll_text a ps given_up left ≡ roll_text b qs other right) where
  told : (plan_texts a ps ≡ plan_texts b qs) × (end_line given_up ++ graph_text left ≡ end_line other ++ graph_text right)
  told =
      same_plans 1 a b ps qs (end_line given_up ++ graph_text left) (end_line other ++ graph_text right) u v (end_ends given_up left) (end_ends other right)
      (sym (append_assoc (parts_text_from 1 a ps) (end_line given_up) (graph_text left)) ∙ same ∙ append_assoc (parts_text_from 1 b qs) (end_line other) (graph_text right))

  pub rolls_tell : plan_texts a ps ≡ plan_texts b qs
  rolls_tell = told.0

  pub ends_tell : IfSome given_up (λ n. n < 2 ^ 64) → IfSome other (λ n. n < 2 ^ 64) → (given_up ≡ other) × (graph_text left ≡ graph_text right)
  ends_tell low low' = same_end given_up other (graph_text left) (graph_text right) low low' told.1
