-- One step of the descent over formulas, as the code takes it.
use Rattle.std.proofs.Common.{◌≡◌, Bool, List, [], ◌∷◌, ◌++◌, Result, Ok, Err, IfOk, refl, sym, subst, ap, ◌∙◌}
use Rattle.pc_syntax.specs.Written.{Written, written, not_}
use Rattle.uspec_parser.specs.{Terminals.{Lexeme}, Operands.{Operands, chain, formula_of}, Grouping.{operands_before}, declared.formulas.Head.{Head}}
use Rattle.uspec_parser.specs.{declared.{operands.Link.{Link}, terminal.Terminal.{Terminal, TheVariants.{Not, Open, Forall, Exists}}}, Syntax.{quantified}}
use Rattle.uspec_parser.specs.Descent.{next, behind, word, place, sort_by, Atom, quantifier, no_opener, start, Operand, Row}
use Rattle.uspec_parser.proofs.GroupedBefore.{operands_before-push}

pub ok_map : {X E : Type 0} (r : Result X E) (P Q : X → Type 0) → IfOk r P → ((x : X) → P x → Q x) → IfOk r Q
ok_map (Ok x) P Q p f = f x p
ok_map (Err e) P Q p f = p

pub negated : (xs ys rest : List Lexeme) (w v : Written) → next xs ≡ Not → ys ≡ behind xs → Operand ys w rest → v ≡ not_ w → Operand xs v rest
negated xs ys rest w v e left u made =
    subst (λ (z : Written). Operand xs z rest) (sym made)
    (Operand.negated (ap start e) (subst (λ (zs : List Lexeme). Operand zs w rest) left u))

abbrev pub RowOf : List Lexeme → Written → List Lexeme → Type 0
RowOf xs w rest = (l : Operands) × Row xs l rest × (w ≡ formula_of l)

pub bracketed : (xs ys rest end : List Lexeme) (w : Written) → next xs ≡ Open → ys ≡ behind xs → RowOf ys w rest → end ≡ behind rest
    → Operand xs w end
bracketed xs ys rest end w e left (l, r, same) last =
    subst (λ (z : Written). Operand xs z end) (sym same)
    (subst (λ (zs : List Lexeme). Operand xs (formula_of l) zs) (sym last)
    (Operand.bracketed (ap start e) (subst (λ (zs : List Lexeme). Row zs l rest) left r)))

pub bound : (universal : Bool) (xs rest : List Lexeme) (w v : Written) (h : Head) → start (next xs) ≡ quantifier universal
    → h ≡ record { at = place xs; sort = sort_by (next (behind xs)); name = (word (behind (behind xs))).name }
    → RowOf (behind (behind (behind (behind xs)))) w rest → v ≡ quantified universal h.at h.sort h.name w → Operand xs v rest
bound universal xs rest w v h e is (l, r, same) made =
    let one = ap (λ (g : Head). quantified universal g.at g.sort g.name (formula_of l)) (sym is)
    ∙ ap (quantified universal h.at h.sort h.name) (sym same) ∙ sym made in
    subst (λ (z : Written). Operand xs z rest) one (Operand.bound universal e r)

start-none : (t : Terminal) → (t ≡ Not → ⊥) → (t ≡ Open → ⊥) → (t ≡ Forall → ⊥) → (t ≡ Exists → ⊥) → start t ≡ no_opener
start-none Not n o f e = absurd (n refl)
start-none Open n o f e = absurd (o refl)
start-none Forall n o f e = absurd (f refl)
start-none Exists n o f e = absurd (e refl)
start-none _ n o f e = refl

pub atom : (t : Terminal) (xs rest : List Lexeme) (w : Written) → t ≡ next xs
    → (t ≡ Not → ⊥) → (t ≡ Open → ⊥) → (t ≡ Forall → ⊥) → (t ≡ Exists → ⊥) → Atom (next xs) xs w rest → Operand xs w rest
atom t xs rest w same n o f e a = Operand.atom (ap start (sym same) ∙ start-none t n o f e) a

-- one operand more before what comes
pub row_pushed : (xs rest : List Lexeme) (new old : List Link) (j : Link) (l : Operands) → new ≡ old ++ j ∷ []
    → Row xs (operands_before old (chain (written j.operand) j.connective l)) rest → Row xs (operands_before new l) rest
row_pushed xs rest new old j l e row_of =
    subst (λ (js : List Link). Row xs (operands_before js l) rest) (sym e)
    (subst (λ (m : Operands). Row xs m rest) (sym (operands_before-push old j l)) row_of)
