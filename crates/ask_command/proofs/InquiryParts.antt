-- What a model with a query's denial as its last axiom gives, and the first fault of three files.
use Rattle.std.{proofs.Common.{◌≡◌, ℕ, List, [], ◌∷◌, ◌++◌, Option, Some, None, map, refl, sym, ◌∙◌, ap, subst}, specs.Option.{option_or}}
use Rattle.std.specs.Prelude.{MatchOption}
use Rattle.pc_common.specs.{Case.{Case}, declared.fault.Which.{Which, TheVariants.{Query}}}
use Rattle.litmus_reader.specs.Answer.{CaseOf}
use Rattle.pc_syntax.specs.declared.{expanded.Expanded.{Expanded}, formula.Formula.{Formula}, model.{Item.{Item, TheVariants.{Axiom}}, StageItem.{StageItem}}}
use Rattle.pc_syntax.specs.{Written.{Written, written, not_, axiom_, WrittenItem, written_item, WrittenModel}, Observable.{macros_of}, Expansion.{expansion_of}}
use Rattle.pc_syntax.specs.{Closed.{PlainClosed}, Closing.{closing_of, IsClosingOf}, Fault.{Fault}, StageFaults.{first_stage_fault}}
use Rattle.pc_syntax.specs.{MacroFaults.{first_macro_fault}, Sizes.{first_size_fault}, NameFaults.{name_fault}, ModelFault.{first_model_fault}}
use Rattle.pc_syntax.proofs.NoFault.{none_first}
use Rattle.macro_expand.specs.Faults.{IsExpandable}
use Rattle.scope_check.{specs.QueryFaults.{FiledFault, query_fault, IsFiledOr, IsDenial, asked}, proofs.FiledFaults.{query_faults, query_expansion, none_filed}}
use Rattle.pc_front.specs.{declared.model_front.FrontEnd.{FrontEnd, TheVariants.{Refused, Memory}}, ModelFront.{closed_axiom, IsModelEnd}}
use Rattle.pc_front.{specs.Front.{SaysModel, IsEnd as IsEndOfTwo}, proofs.PartsOf.{model_end}}
use Rattle.ask_command.specs.{Queries.{first_byte, with_denial, first_query_fault, IsQueryEnd}, Denials.{IsLastExpansion}, Inquiries.{in_two, in_query, IsEnd}}
use Rattle.ask_command.proofs.{WithAxiom.{macros_same}, QueryEnds.{macro_first, name_first, no_fault_asked}}

map_end : {A B : Type 0} (g : A → B) (xs : List A) (x : A) → map g (xs ++ x ∷ []) ≡ map g xs ++ g x ∷ []
map_end g [] x = refl
map_end g (y ∷ xs) x = ap (λ zs. g y ∷ zs) (map_end g xs x)

-- an axiom that was put last
pub pushed_is : (stages : List StageItem) (items : List Item) (body : Formula) (f : Written) → written body ≡ not_ f
    → record { stages = stages; items = map written_item (items ++ Axiom first_byte body ∷ []) }
    ≡ with_denial (record { stages = stages; items = map written_item items }) f
pushed_is stages items body f is =
    let put : List WrittenItem → WrittenModel = λ ws. record { stages = stages; items = ws } in
    ap put (map_end written_item items (Axiom first_byte body) ∙ ap (λ w. map written_item items ++ axiom_ first_byte w ∷ []) is)

module _ (n m : WrittenModel) (f : Written) (is : n ≡ with_denial m f) where
  same_stages : n.stages ≡ m.stages
  same_stages = ap (λ (k : WrittenModel). k.stages) is

  same_macros : macros_of n ≡ macros_of m
  same_macros = ap macros_of is ∙ macros_same m (not_ f)

  -- a fault of macros or of sizes is the query's
  pub denial_macro_first : (o : Option Fault)
      → MatchOption o (Unit {0}) (λ told. option_or (first_macro_fault n) (first_size_fault n) ≡ Some told)
      → IsFiledOr (first_query_fault m f) Query o
  denial_macro_first o fault =
      let P : WrittenModel → Type 0 = λ k. MatchOption o (Unit {0}) (λ told. option_or (first_macro_fault k) (first_size_fault k) ≡ Some told) in
      macro_first m f o (subst P is fault)

  module _ (e : Expanded) (last : IsLastExpansion n e) where
    spelled : written e.body ≡ not_ (expansion_of (macros_of m) f)
    spelled = last.last m (not_ f) is ∙ ap (λ ms. expansion_of ms (not_ f)) same_macros

    expandable : IsExpandable (with_denial m f)
    expandable = subst IsExpandable is last.expandable

    -- the last expansion is a denial
    pub is_denial : IsDenial (written e.body)
    is_denial = subst IsDenial (sym spelled) tt

    same_fault : query_fault n.stages [] [] (written e.body) ≡ query_fault m.stages (macros_of m) [] (not_ f)
    same_fault =
        ap (λ ss. query_fault ss [] [] (written e.body)) same_stages ∙ ap (query_fault m.stages [] []) spelled
        ∙ sym (query_expansion m.stages (macros_of m) [] (not_ f))

    -- a fault of names is the query's
    pub denial_name_first : (file : Which) (o : Option Fault)
        → IsFiledOr (query_fault n.stages [] [] (written e.body)) file o → IsFiledOr (first_query_fault m f) file o
    denial_name_first file o fault =
        let P : Option FiledFault → Type 0 = λ first. IsFiledOr first file o in
        name_first m f expandable file o (subst P same_fault fault)

    -- without a fault the formula is closed
    pub denied_closed : (p : PlainClosed) → IsClosingOf n.stages [] (asked (written e.body)) p
        → (first_query_fault m f ≡ None) × (p ≡ closed_axiom m f)
    denied_closed p closing =
        let w = expansion_of (macros_of m) f in
        let inner : asked (written e.body) ≡ w = ap asked spelled in
        let names : name_fault m.stages [] [] w ≡ None =
        ap (λ ss. name_fault ss [] [] w) (sym same_stages) ∙ ap (name_fault n.stages [] []) (sym inner) ∙ closing.no_fault in
        let none : query_fault m.stages (macros_of m) [] (not_ f) ≡ None =
        query_expansion m.stages (macros_of m) [] (not_ f)
        ∙ none_filed (query_fault m.stages [] [] w) (query_faults m.stages [] [] w ∙ names) in (
          no_fault_asked m f expandable none,
          closing.closing ∙ ap (closing_of n.stages []) inner ∙ ap (λ ss. closing_of ss [] w) same_stages,
        )

-- a model without faults has none of its stages
pub no_stage_fault : (m : WrittenModel) → first_model_fault m ≡ None → first_stage_fault m ≡ None
no_stage_fault m none = none_first (first_stage_fault m) _ none

-- the first fault of three files
pub two_ends : (model test query : List ℕ) (e : FrontEnd) → IsEndOfTwo model test e → IsEnd model test query e
two_ends model test query (Refused fault) is = in_two is
two_ends model test query Memory is = tt

pub model_ends : (model test query : List ℕ) (e : FrontEnd) → IsModelEnd model e → IsEnd model test query e
model_ends model test query e is = two_ends model test query e (model_end model test e is)

pub query_ends : (model test query : List ℕ) (m : WrittenModel) (c : Case) (e : FrontEnd) → SaysModel model m → CaseOf test c
    → IsQueryEnd m query e → IsEnd model test query e
query_ends model test query m c (Refused fault) says said is = in_query says said is
query_ends model test query m c Memory says said is = tt

-- the denial changes no stage
pub stage_fault_kept : (n m : WrittenModel) (f : Written) → n ≡ with_denial m f → first_stage_fault m ≡ None → first_stage_fault n ≡ None
stage_fault_kept n m f is none = ap first_stage_fault is ∙ none
