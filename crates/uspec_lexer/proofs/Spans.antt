-- What the loop of `tokens_from` keeps: the spans so far are those of the tokens before a place.
use Rattle.std.proofs.Common.{◌≡◌, ℕ, ◌+◌, ◌-◌, ◌≤◌, List, [], ◌∷◌, ◌++◌, length, map, sym, ap, ◌∙◌, refl, subst, arith, length-append}
use Rattle.std.{proofs.lemmas.List.{append-nil, map-append, Elements.{All-push}}, specs.Prelude.{All, slice_range}}
use Rattle.uspec_lexer.specs.{Token.{Token as PlainToken}, Span.{token_at, kind_of_token, IsWithin}, Scan.{plain_form, spans_of_form}}
use Rattle.uspec_lexer.specs.{Spells.{tokens_of_piece, SpellsBetween}, Table.{Table}, Piece.{IsPiece}, declared.scan.Form.{Form}}
use Rattle.uspec_lexer.{specs.declared.{scan.Form.TheVariants.{Blank, Comment, Token}, list.Span.{Span}}, proofs.Pieces.{piece-rises, piece-within}}
use Rattle.uspec_lexer.proofs.SpellsLaws.{spells-push}

pub record LexedTo (t : Table) (bytes : List ℕ) (from a : ℕ) (spans : List Span) : Type 0 where
  pub within : a ≤ length bytes
  pub few : length spans ≤ a
  pub spans_within : All (IsWithin bytes) spans
  pub spelled : SpellsBetween t bytes from a (map (token_at bytes) spans)

module _ (bytes : List ℕ) where
  tokens_of_spans : (form : Form) (a b : ℕ) → a ≤ b
      → map (token_at bytes) (spans_of_form form a b) ≡ tokens_of_piece bytes (plain_form form) a b
  tokens_of_spans Blank a b le = refl
  tokens_of_spans Comment a b le = refl
  tokens_of_spans (Token kind) a b le =
      let whole : a + (b - a) ≡ b = omega arith in
      let at_end : ℕ → List PlainToken = λ e. record { kind = kind_of_token kind; at = a; piece = slice_range bytes a e } ∷ [] in
      ap at_end whole

  spans-within : (form : Form) (spans : List Span) (a b : ℕ) → a ≤ b → b ≤ length bytes → All (IsWithin bytes) spans
      → All (IsWithin bytes) (spans ++ spans_of_form form a b)
  spans-within Blank spans a b le within all = subst (All (IsWithin bytes)) (sym (append-nil spans)) all
  spans-within Comment spans a b le within all = subst (All (IsWithin bytes)) (sym (append-nil spans)) all
  spans-within (Token kind) spans a b le within all = All-push (IsWithin bytes) spans _ all (omega arith)

spans-few : (form : Form) (a b : ℕ) → length (spans_of_form form a b) ≤ 1
spans-few Blank a b = omega arith
spans-few Comment a b = omega arith
spans-few (Token kind) a b = omega arith

-- the piece at a place takes the loop to its end
pub lexed_to-next : (t : Table) (bytes : List ℕ) (from : ℕ) (form : Form) (a b : ℕ) (spans spans' : List Span)
    → LexedTo t bytes from a spans → IsPiece t bytes (plain_form form) a b → spans' ≡ spans ++ spans_of_form form a b
    → LexedTo t bytes from b spans'
lexed_to-next t bytes from form a b spans spans' before p new =
    let more : List Span = spans_of_form form a b in
    let rises = piece-rises t bytes (plain_form form) a b p in
    let ordered : a ≤ b = omega (arith, rises) in
    let within = piece-within t bytes (plain_form form) a b p in
    let spelled = spells-push t bytes from a b (plain_form form) (map (token_at bytes) spans) before.spelled p in
    let same : map (token_at bytes) spans ++ tokens_of_piece bytes (plain_form form) a b ≡ map (token_at bytes) (spans ++ more) =
    ap (λ ts. map (token_at bytes) spans ++ ts) (sym (tokens_of_spans bytes form a b ordered))
    ∙ sym (map-append (token_at bytes) spans more) in
    subst (LexedTo t bytes from b) (sym new) (record {
      within = within;
      few = omega (arith, before.few, rises, length-append spans more, spans-few form a b);
      spans_within = spans-within bytes form spans a b ordered within before.spans_within;
      spelled = subst (SpellsBetween t bytes from b) same spelled;
    })
