-- The statements of a script are such that what its run leaves can be told: names and paths are words, and numbers
-- keep their limits.
use Rattle.std.proofs.Common.{◌≡◌, ◌==◌, ◌<◌, ℕ, ℤ, zero, suc, pos, Bool, true, false, not, cond, List, [], ◌∷◌, length, map, refl, sym, ap, subst, arith}
use Rattle.std.specs.Prelude.{⊤, ◌&&◌, All, Ok, Err, Result, nat_le, neg_ℤ}
use Rattle.std.specs.List.{AllByRecursion, AllPass, list_all}
use Rattle.std.proofs.lemmas.Bool.{and_from, and_parts, both_ways, leb-true, ne_eqb}
use Rattle.std.proofs.lemmas.List.{take_all}
use Rattle.std.proofs.lemmas.List.Elements.{All-head, All-tail}
use Rattle.config_graph.specs.Graph.{Graph}
use Rattle.config_graph.specs.GraphText.{IsOneWord}
use Rattle.config_graph.specs.declared.node.Node.{Node}
use Rattle.darwin_lexer.specs.Fronts.{front_of}
use Rattle.darwin_lexer.specs.Keywords.{continues_name}
use Rattle.darwin_lexer.specs.Naming as naming
use Rattle.darwin_lexer.specs.Spelling.{Means}
use Rattle.report_types.specs.declared.script.Body.{Body}
use Rattle.report_types.specs.declared.script.Body.TheVariants as bodies
use Rattle.report_types.specs.declared.script.Script.{Script}
use Rattle.report_types.specs.declared.script.ScriptLine.{ScriptLine}
use Rattle.change_script.specs.declared.error.LineFault.{LineFault}
use Rattle.change_script.specs.Lines.{Line, statements}
use Rattle.change_script.specs.Numbers.{integer, integer_fits, is_integer, is_negative, magnitude, number, number_fits}
use Rattle.change_script.specs.Paths.{is_name, is_path}
use Rattle.change_script.specs.ScriptFiles.{IsScript, said, said_by, said_with}
use Rattle.change_script.specs.ScriptForms.{are_paths, are_right}
use Rattle.change_script.specs.ScriptLines.{LineMeans, body_of, keep_limits, meaning, paths_fit}
use Rattle.change_script.specs.ScriptWords.{Words}
use Rattle.change_script.specs.ScriptWords as words_
use Rattle.change_script.specs.StatementTexts.{IsInteger, IsWrittenPath}
use Rattle.change_script.specs.Written.{IsNumber}
use Rattle.report_lines.specs.ReportLines.{lacks}
use Rattle.report_texts.specs.ReportTexts.{IsWord}
use Rattle.change_spec.specs.Scripts.{Above, SayAll, Says, StatementsOf, nothing_above}
use Rattle.change_spec.specs.Statements.{Statement}
use Rattle.result_laws.specs.Telling.{AreStated, HasWords, IsCall, IsStated}
use Rattle.base.proofs.ListLaws.{AllByRecursion-append}

-- ---- words

-- what each byte has keeps another byte from standing in the text
pub lacks_by : (P : ℕ → Type 0) (at : ℕ) → ((byte : ℕ) → P byte → byte ≡ at → ⊥) → (text : List ℕ) → All P text → lacks at text ≡ true
lacks_by P at other [] all = refl
lacks_by P at other (byte ∷ bytes) all =
    and_from (not (byte == at)) (lacks at bytes) (ap not (ne_eqb byte at (other byte (All-head P byte bytes all)))) (lacks_by P at other bytes (All-tail P byte bytes all))

not_letter : (at : ℕ) → continues_name at ≡ false → (byte : ℕ) → continues_name byte ≡ true → byte ≡ at → ⊥
not_letter at none byte letter same = both_ways (continues_name at) none (subst (λ b. continues_name b ≡ true) same letter)

has_some_bytes : (name : List ℕ) → is_name name ≡ true → 0 < length name
has_some_bytes [] is = absurd (both_ways false refl is)
has_some_bytes (byte ∷ bytes) is = omega arith

-- what is asked of the statement of a line
abbrev BodyIsStated : Body → Type 0
BodyIsStated (bodies.File name) = ⊤
BodyIsStated (bodies.Start name args) = IsCall name args
BodyIsStated (bodies.Run k) = IsNumber k
BodyIsStated (bodies.Change name args within moves) = IsCall name args × IsNumber within
BodyIsStated (bodies.Finish n) = IsNumber n
BodyIsStated bodies.Show = ⊤
BodyIsStated bodies.Stop = ⊤

module _ (spelled : (text : List ℕ) → Means text (front_of text)) (named : (bytes : List ℕ) → is_name bytes ≡ true → naming.IsName bytes) where
  letters : (name : List ℕ) → is_name name ≡ true → AllPass continues_name name
  letters name is =
      let token = subst (Means name) (named name is) (spelled name) in
      subst (AllPass continues_name) (take_all (length name) name (omega arith)) token.0.spelled.goes_on

  call_of : (name : List ℕ) (args : List (List ℕ)) → is_name name ≡ true → list_all integer_fits args ≡ true → IsCall name (map integer args)
  call_of name args is fit =
      let all = letters name is in
      record {
        is_name = (
          has_some_bytes name is,
          lacks_by (λ b. continues_name b ≡ true) 32 (not_letter 32 refl) name all,
          lacks_by (λ b. continues_name b ≡ true) 40 (not_letter 40 refl) name all,
        );
        one_line = lacks_by (λ b. continues_name b ≡ true) 10 (not_letter 10 refl) name all;
        integers = integers args fit;
      }
    where
      signed : (k : ℕ) (b : Bool) → nat_le k (cond b 2147483648 2147483647) ≡ true → IsInteger (cond b (neg_ℤ (pos k)) (pos k))
      signed k false low = omega (arith, leb-true k 2147483647 low)
      signed zero true low = omega arith
      signed (suc k) true low = omega (arith, leb-true (suc k) 2147483648 low)

      integers : (args : List (List ℕ)) → list_all integer_fits args ≡ true → AllByRecursion IsInteger (map integer args)
      integers [] fit = tt
      integers (arg ∷ args) fit =
          let both = and_parts (integer_fits arg) (list_all integer_fits args) fit in
          (signed (number (magnitude arg)) (is_negative arg) both.0, integers args both.1)

  -- ---- lines

  small : (word : List ℕ) → number_fits word ≡ true → IsNumber (number word)
  small word fits = omega (arith, leb-true (number word) 4294967295 fits)

  body_stated : (w : Words) → are_right w ≡ true → keep_limits w ≡ true → BodyIsStated (body_of w)
  body_stated (words_.file name) right keep = tt
  body_stated (words_.start name args) right keep = call_of name args (and_parts (is_name name) (list_all is_integer args) right).0 keep
  body_stated (words_.run count) right keep = small count keep
  body_stated (words_.change name args within moves) right keep =
      let last = and_parts (list_all integer_fits args && number_fits within) (list_all paths_fit moves) keep in
      let both = and_parts (list_all integer_fits args) (number_fits within) last.0 in
      (call_of name args (and_parts _ _ (and_parts _ _ (and_parts _ (list_all are_paths moves) right).0).0).0 both.0, small within both.1)
  body_stated (words_.finish within) right keep = small within keep
  body_stated words_.show right keep = tt
  body_stated words_.stop right keep = tt

  module _ (meant : (line : List ℕ) (body : Body) → meaning line ≡ Ok body → LineMeans line body) where
    meant_stated : (line : List ℕ) (body : Body) → meaning line ≡ Ok body → BodyIsStated body
    meant_stated line body is =
        let w = meant line body is in subst BodyIsStated (sym w.3) (body_stated w.0 w.1.1 w.2)

    lines_stated : (ls : List Line) → AllByRecursion (λ (l : ScriptLine). BodyIsStated l.body) (said ls)
    lines_stated [] = tt
    lines_stated (l ∷ ls) = AllByRecursion-append (λ (x : ScriptLine). BodyIsStated x.body) (said_by l) (said ls) (by (meaning l.bytes) refl) (lines_stated ls)
      where
        by : (r : Result Body LineFault) → meaning l.bytes ≡ r → AllByRecursion (λ (x : ScriptLine). BodyIsStated x.body) (said_with l.number r)
        by (Err fault) is = tt
        by (Ok body) is = (meant_stated l.bytes body is, tt)

    -- ---- statements

    module _ (elab : List ℕ → List ℕ → List ℤ → Graph → Type 0) (has_words : (file name : List ℕ) (args : List ℤ) (g : Graph) → AllByRecursion IsInteger args → elab file name args g → HasWords g) where
      own_stated : (above : Above) (body : Body) (own : List Statement) (next : Above) → BodyIsStated body → Says elab above body own next → AreStated own
      own_stated above (bodies.File name) own next stated says = subst AreStated (sym says.0) tt
      own_stated above (bodies.Start name args) own next stated says =
          subst AreStated (sym says.own_is) ((stated, has_words above.file name args says.graph stated.integers says.elaborates), tt)
      own_stated above (bodies.Run k) own next stated says = subst AreStated (sym says.0) (stated, tt)
      own_stated above (bodies.Change name args within moves) own next stated says =
          subst AreStated (sym says.own_is) ((stated.0, has_words above.file name args says.graph stated.0.integers says.elaborates, stated.1), tt)
      own_stated above (bodies.Finish n) own next stated says = subst AreStated (sym says.0) (stated, tt)
      own_stated above bodies.Show own next stated says = subst AreStated (sym says.0) (tt, tt)
      own_stated above bodies.Stop own next stated says = subst AreStated (sym says.0) tt

      say_stated : (lines : List ScriptLine) (above : Above) (ss : List Statement) → AllByRecursion (λ (l : ScriptLine). BodyIsStated l.body) lines → SayAll elab lines above ss → AreStated ss
      say_stated [] above ss all says = subst AreStated (sym says) tt
      say_stated (line ∷ lines) above ss all says =
          subst AreStated (sym says.are)
          (AllByRecursion-append IsStated says.own says.rest (own_stated above line.body says.own says.next all.0 says.says) (say_stated lines says.next says.rest all.1 says.below))

      pub script_stated : (bytes : List ℕ) (script : Script) (ss : List Statement) → IsScript bytes script → StatementsOf elab script ss → AreStated ss
      script_stated bytes script ss is says =
          say_stated script.lines nothing_above ss (subst (AllByRecursion (λ (l : ScriptLine). BodyIsStated l.body)) (sym is.1) (lines_stated (statements bytes))) says

-- ---- paths

path_filled : (path : List ℕ) → is_path path ≡ true → 0 < length path
path_filled [] is = absurd (both_ways false refl is)
path_filled (byte ∷ bytes) is = omega arith

path_word : (path : List ℕ) → IsOneWord path → IsWrittenPath path → IsWord path
path_word path word written = (
  path_filled path written.1,
  lacks_by (λ b. (b ≡ 32 → ⊥) × (b ≡ 10 → ⊥)) 32 (λ b other same. other.0 same) path word,
  lacks_by (λ b. (b ≡ 32 → ⊥) × (b ≡ 10 → ⊥)) 10 (λ b other same. other.1 same) path word,
)

pub paths_words : (nodes : List Node) → All (λ (n : Node). IsOneWord n.path) nodes → All (λ (n : Node). IsWrittenPath n.path) nodes → AllByRecursion (λ (n : Node). IsWord n.path) nodes
paths_words [] words written = tt
paths_words (n ∷ nodes) words written = (
  path_word n.path (All-head (λ (m : Node). IsOneWord m.path) n nodes words) (All-head (λ (m : Node). IsWrittenPath m.path) n nodes written),
  paths_words nodes (All-tail (λ (m : Node). IsOneWord m.path) n nodes words) (All-tail (λ (m : Node). IsWrittenPath m.path) n nodes written),
)
