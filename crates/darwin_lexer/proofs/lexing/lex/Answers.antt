use Rattle.std.proofs.Common.{inl, ◌≡◌, ◌+◌, subst, sym, ap, refl, ◌∙◌, arith, length, take, drop, fold, ◌-◌, ◌≤◌, length-drop, length-take-le, length-append}
use Rattle.darwin_lexer.specs.declared.token.Token.{Token}
use Rattle.darwin_lexer.specs.Tokens.{Tokenizes, ended, FirstFault}
use Rattle.darwin_lexer.specs.Fronts.{front_of}
use Rattle.darwin_lexer.specs.Positions.{next, place_of}
use Rattle.darwin_lexer.proofs.TokensLaws.{gap_more, token_more, place_of-add, one_parting, never_both, refuses_tokens, refuses_fault}
use Rattle.darwin_lexer.proofs.lexing.lex.Goals as goal
use Rattle.darwin_lexer.proofs.lexing.lex.Goals.{in-Gap, in-Lexeme+in_ok-push-in-Lexeme}
use Rattle.base.proofs.PlaceLaws.{rest_is}

pub pieces-init : goal.pieces-init
pieces-init c = record { parted = subst (Tokenizes c.args.text.now 0 0) (sym c.new-tokens.ensures.items) (ended 0); within = omega arith; few = omega (arith, ap length c.new-tokens.ensures.items); place = refl; line = omega arith; column = omega arith }

pub pieces-preserved : goal.pieces-preserved
pieces-preserved c =
    let text = c.args.text.now in
    let start = c.pieces.start in
    let kept = c.pieces.invariant in
    let rest = rest_is text start kept.within in
    let len = length-drop start text in
    let within : start + c.match-front_of.len ≤ length text =
    elim c.match-front_of.branch [
      | in-Gap w ↦ omega (arith, ap length rest, w.in-Gap.ensures.within.1)
      | in-Lexeme+in_ok-push-in-Lexeme w ↦ omega (arith, ap length rest, w.in-Lexeme.ensures.within.1)
    ] in
    let taken = length-take-le c.match-front_of.len (take (length text - start) (drop start text)) (omega (arith, ap length rest)) in
    record {
      parted =
          elim c.match-front_of.branch [
            | in-Gap w ↦ gap_more text _ start _ _ _ _ kept.parted rest w.in-Gap.ensures.front w.len-is (ap (λ v. v.items) w.tokens-is)
            | in-Lexeme+in_ok-push-in-Lexeme w ↦ token_more text _ start _ _ _ _ _ _ kept.parted rest w.in-Lexeme.ensures.front w.len-is kept.place (ap (λ v. v.items) w.tokens-is ∙ w.in_ok-push-in-Lexeme.ensures.items)
          ];
      within = within;
      few =
          elim c.match-front_of.branch [
            | in-Gap w ↦ omega (arith, ap (λ v. length v.items) w.tokens-is, kept.few)
            | in-Lexeme+in_ok-push-in-Lexeme w ↦
                omega
                (arith, ap (λ v. length v.items) w.tokens-is, ap length w.in_ok-push-in-Lexeme.ensures.items, length-append {A = Token}, w.in-Lexeme.ensures.within, w.len-is, kept.few)
          ];
      place = c.after-at.ensures.place ∙ (ap (λ at. fold next at (take c.match-front_of.len (take (length text - start) (drop start text)))) kept.place) ∙ ap (λ l. fold next (place_of text start) (take c.match-front_of.len l)) rest ∙ place_of-add text start c.match-front_of.len;
      line = omega (arith, taken, c.after-at.ensures.line);
      column = omega (arith, taken, c.after-at.ensures.column);
    }

pub returns-in-End : goal.returns-in-End
returns-in-End c =
    let text = c.args.text.now in
    let kept = c.pieces.invariant in
    let rest = rest_is text c.pieces.start kept.within in
    let len = length-drop c.pieces.start text in
    let at_end : c.pieces.start ≡ length text = omega (arith, ap length rest, c.in-End.ensures.within) in
    let parts = subst (λ k. Tokenizes text 0 k c.pieces.tokens.items) at_end kept.parted in
    record {
      tokens = parts;
      few = omega (arith, kept.few, kept.within);
      whenever = λ tokens is. inl (one_parting text _ _ parts is);
      bad_byte = refuses_tokens text _ _ _ parts;
      open_comment = refuses_tokens text _ _ _ parts;
      long_name = refuses_tokens text _ _ _ parts;
      big_number = refuses_tokens text _ _ _ parts;
    }

pub returns-in-Broken : goal.returns-in-Broken
returns-in-Broken c =
    let text = c.args.text.now in
    let kept = c.pieces.invariant in
    let rest = rest_is text c.pieces.start kept.within in
    let first : FirstFault text c.in-Broken.fault c.pieces.at = (c.pieces.start, c.pieces.tokens.items, kept.parted, sym (c.in-Broken.ensures.front ∙ ap front_of rest), kept.place) in
    record {
      tokens = tt;
      few = tt;
      whenever = λ tokens is. absurd (never_both text tokens _ _ is first);
      bad_byte = refuses_fault text _ _ _ _ c.at.ensures first;
      open_comment = refuses_fault text _ _ _ _ c.at.ensures first;
      long_name = refuses_fault text _ _ _ _ c.at.ensures first;
      big_number = refuses_fault text _ _ _ _ c.at.ensures first;
    }
