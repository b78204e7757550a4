-- What tokens have beside their terminals, and texts of lexemes in place of texts of terminals.
use Rattle.std.proofs.Common.{◌≡◌, ℕ, Bool, false, List, [], ◌∷◌, ◌++◌, Option, Some, None, MatchOption, map, refl, sym, ap, subst}
use Rattle.pc_common.specs.declared.place.Place.{Place}
use Rattle.pc_syntax.specs.declared.term.Word.{Word}
use Rattle.ll_grammar.{specs.declared.grammar.Symbol.{Symbol, TheVariants.{Terminal as a_terminal, Nonterminal as a_nonterminal}}, proofs.DerivesLaws.{Each}}
use Rattle.ll_grammar.proofs.DerivesLaws.Each.{none as e_none, class as e_class, part as e_part}
use Rattle.uspec_lexer.specs.Token.{Token}
use Rattle.uspec_parser.specs.Terminals.{Lexeme, plain, placed, name_, quoted, number_, terminal, lexeme_by, lexeme, terminal_of, content, start_of_token, value}
use Rattle.uspec_parser.specs.{Phrases.{deep}, declared.terminal.Terminal.{Terminal, TheVariants.{Axiom, ExpandMacro, Forall, Exists, Name, Number, Quoted}}}
use Rattle.uspec_parser.specs.declared.phrase.Phrase.{Phrase}

-- what a lexeme has beside its terminal
abbrev pub Payload : Terminal → Type 0
Payload Name = Word
Payload Quoted = Word
Payload Number = ℕ × Place
Payload Forall = Place
Payload Exists = Place
Payload ExpandMacro = Place
Payload Axiom = Place
Payload _ = Unit {0}

abbrev pub with_payload : (t : Terminal) → Payload t → Lexeme
with_payload Name w = name_ w
with_payload Quoted w = quoted w
with_payload Number n = number_ n.0 n.1
with_payload Forall at = placed Forall at
with_payload Exists at = placed Exists at
with_payload ExpandMacro at = placed ExpandMacro at
with_payload Axiom at = placed Axiom at
with_payload t _ = plain t

-- the lexeme has what its terminal asks for
abbrev pub HasPayload : Lexeme → Type 0
HasPayload x = (p : Payload (terminal x)) × (x ≡ with_payload (terminal x) p)

abbrev pub HavePayloads : List Lexeme → Type 0
HavePayloads [] = Unit {0}
HavePayloads (x ∷ xs) = HasPayload x × HavePayloads xs

pub payload_lexeme : (t : Terminal) (token : Token) → HasPayload (lexeme_by t token)
payload_lexeme Name token = (record { name = token.piece; at = start_of_token token }, refl)
payload_lexeme Quoted token = (record { name = content token.piece; at = start_of_token token }, refl)
payload_lexeme Number token = ((value token.kind, start_of_token token), refl)
payload_lexeme Forall token = (start_of_token token, refl)
payload_lexeme Exists token = (start_of_token token, refl)
payload_lexeme ExpandMacro token = (start_of_token token, refl)
payload_lexeme Axiom token = (start_of_token token, refl)
payload_lexeme _ token = (tt, refl)

-- so do all lexemes of tokens
pub payloads_of_tokens : (ts : List Token) → HavePayloads (map lexeme ts)
payloads_of_tokens [] = tt
payloads_of_tokens (t ∷ ts) = (payload_lexeme (terminal_of t) t, payloads_of_tokens ts)

pub nowhere : Place
nowhere = record { offset = 0 }

pub any : Word
any = record { name = []; at = nowhere }

abbrev pub anything : (t : Terminal) → Payload t
anything Name = any
anything Quoted = any
anything Number = (0, nowhere)
anything Forall = nowhere
anything Exists = nowhere
anything ExpandMacro = nowhere
anything Axiom = nowhere
anything _ = tt

-- a lexeme of each terminal
abbrev pub some_lexeme : Terminal → Lexeme
some_lexeme t = with_payload t (anything t)

terminal-some : (t : Terminal) → terminal (some_lexeme t) ≡ t
terminal-some Name = refl
terminal-some _ = refl

payload-some : (t : Terminal) → HasPayload (some_lexeme t)
payload-some Name = (any, refl)
payload-some Quoted = (any, refl)
payload-some Number = ((0, nowhere), refl)
payload-some Forall = (nowhere, refl)
payload-some Exists = (nowhere, refl)
payload-some ExpandMacro = (nowhere, refl)
payload-some Axiom = (nowhere, refl)
payload-some _ = (tt, refl)

pub payloads-somes : (ts : List Terminal) → HavePayloads (map some_lexeme ts)
payloads-somes [] = tt
payloads-somes (t ∷ ts) = (payload-some t, payloads-somes ts)

pub terminals-somes : (ts : List Terminal) → map terminal (map some_lexeme ts) ≡ ts
terminals-somes [] = refl
terminals-somes (t ∷ ts) = let head = terminal-some t in let rest = terminals-somes ts in cc

-- the lexemes are texts of the symbols in a row, where `M` says what are texts of a phrase
pub data EachWithPayload (M : Phrase → List Lexeme → List Bool → Type 0) : List (Symbol Terminal Phrase) → List Lexeme → List Bool → Type 0 where
  none : EachWithPayload M [] [] []
  class : {c : Terminal} {rest : List (Symbol Terminal Phrase)} {xs : List Lexeme} {marks : List Bool} (p : Payload c)
      → EachWithPayload M rest xs marks → EachWithPayload M (a_terminal c ∷ rest) (with_payload c p ∷ xs) (false ∷ marks)
  part : {n : Phrase} {rest : List (Symbol Terminal Phrase)} {xs ys : List Lexeme} {marks others : List Bool}
      → M n xs marks → EachWithPayload M rest ys others → EachWithPayload M (a_nonterminal n ∷ rest) (xs ++ ys) (marks ++ others)

-- of terminals: whatever lexemes have beside them is a text
abbrev pub Means : (Phrase → List Lexeme → List Bool → Type 0) → Phrase → List Terminal → List Bool → Type 0
Means M n cs marks = (xs : List Lexeme) → HavePayloads xs → map terminal xs ≡ cs → M n xs marks

-- lexemes of two texts, parted
record IsParted (cs ds : List Terminal) (xs : List Lexeme) : Type 0 where
  pub front : List Lexeme
  pub back : List Lexeme
  pub all : xs ≡ front ++ back
  pub front_terminals : map terminal front ≡ cs
  pub back_terminals : map terminal back ≡ ds
  pub front_payloads : HavePayloads front
  pub back_payloads : HavePayloads back

parted : (cs ds : List Terminal) (xs : List Lexeme) → HavePayloads xs → map terminal xs ≡ cs ++ ds → IsParted cs ds xs
parted [] ds xs payloads e = record {
  front = [];
  back = xs;
  all = refl;
  front_terminals = refl;
  back_terminals = e;
  front_payloads = tt;
  back_payloads = payloads;
}
parted (c ∷ cs) ds [] payloads e = absurd (cc)
parted (c ∷ cs) ds (x ∷ xs) payloads e =
    let p = parted cs ds xs payloads.1 (cc) in record {
      front = x ∷ p.front;
      back = p.back;
      all = ap (λ (ys : List Lexeme). x ∷ ys) p.all;
      front_terminals = let head : terminal x ≡ c = cc in let rest = p.front_terminals in cc;
      back_terminals = p.back_terminals;
      front_payloads = (payloads.0, p.front_payloads);
      back_payloads = p.back_payloads;
    }

each_with_payload : (M : Phrase → List Lexeme → List Bool → Type 0) {symbols : List (Symbol Terminal Phrase)} {cs : List Terminal} {marks : List Bool}
    → Each (Means M) symbols cs marks → (xs : List Lexeme) → HavePayloads xs → map terminal xs ≡ cs → EachWithPayload M symbols xs marks
each_with_payload M e_none [] payloads e = none
each_with_payload M e_none (x ∷ xs) payloads e = absurd (cc)
each_with_payload M (e_class each) [] payloads e = absurd (cc)
each_with_payload M (e_class {c = c} {rest = rest} {marks = marks} each) (x ∷ xs) payloads e =
    let head : terminal x ≡ c = cc in
    let others = each_with_payload M each xs payloads.1 (cc) in
    subst (λ (d : Terminal). EachWithPayload M (a_terminal d ∷ rest) (x ∷ xs) (false ∷ marks)) head
    (subst (λ (y : Lexeme). EachWithPayload M (a_terminal (terminal x) ∷ rest) (y ∷ xs) (false ∷ marks)) (sym payloads.0.1) (class payloads.0.0 others))
each_with_payload M (e_part {n = n} {rest = rest} {cs = cs} {ds = ds} {marks = marks} {others = others} m each) xs payloads e =
    let p = parted cs ds xs payloads e in
    subst (λ (ys : List Lexeme). EachWithPayload M (a_nonterminal n ∷ rest) ys (marks ++ others)) (sym p.all)
    (part (m p.front p.front_payloads p.front_terminals) (each_with_payload M each p.back p.back_payloads p.back_terminals))

-- a rule that spells a text of lexemes keeps what terminals mean
pub rule_of : (M : Phrase → List Lexeme → List Bool → Type 0) (n : Phrase) (c : Terminal) (found : Option (List (Symbol Terminal Phrase)))
    → MatchOption found (Unit {0}) (λ body. (p : Payload c) (xs : List Lexeme) (marks : List Bool) → EachWithPayload M body xs marks
    → M n (with_payload c p ∷ xs) (deep n c ∷ marks))
    → MatchOption found (Unit {0}) (λ body. (cs : List Terminal) (marks : List Bool) → Each (Means M) body cs marks
    → Means M n (c ∷ cs) (deep n c ∷ marks))
rule_of M n c None keeps = tt
rule_of M n c (Some body) keeps = by
  where
    ends : (d : Terminal) → c ≡ d → (p : Payload d) (xs : List Lexeme) (marks : List Bool) → EachWithPayload M body xs marks
        → M n (with_payload d p ∷ xs) (deep n c ∷ marks)
    ends d same p xs marks each =
        subst (λ (t : Terminal). (q : Payload t) → M n (with_payload t q ∷ xs) (deep n c ∷ marks)) same (λ q. keeps q xs marks each) p

    by : (cs : List Terminal) (marks : List Bool) → Each (Means M) body cs marks → Means M n (c ∷ cs) (deep n c ∷ marks)
    by cs marks each [] payloads e = absurd (cc)
    by cs marks each (x ∷ xs) payloads e =
        let head : terminal x ≡ c = cc in
        let others = each_with_payload M each xs payloads.1 (cc) in
        subst (λ (y : Lexeme). M n (y ∷ xs) (deep n c ∷ marks)) (sym payloads.0.1)
        (ends (terminal x) (sym head) payloads.0.0 xs marks others)
