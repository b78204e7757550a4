-- What reading the words after the first one makes of a line.
use Rattle.std.proofs.Common.{◌≡◌, ◌≢◌, ℕ, ◌≤◌, Bool, drop, ◌++◌, List, [], ◌∷◌, length, refl, sym, ◌∙◌, ap, arith, subst, ◌==◌, true, false, Option, Some, None, Ok, Err, Bor, is_err}
use Rattle.std.{proofs.lemmas.List.{Elements.{All-nil, All-cons, All-head}, Splits.{length-slice_split}}, specs.Prelude.{All, Result, OnErr, codes, is_some}}
use Rattle.std.specs.{Option.{option_map_or}, Result.{IsErrAnd}}
use Rattle.pc_common.specs.{World.{Node}, Lines.{Names, sign_text}, Steps.{cycle, path, absent, false_step, Step as PlainStep, split, close}}
use Rattle.pc_ground.specs.{Decimals.{IsDecimal}, NodeForm.{IsNodeForm, IsNodeIn, AreReadable}, declared.line_fault.LineFault.{LineFault}}
use Rattle.pc_ground.{specs.{declared.line_fault.LineFault.TheVariants.{Malformed, Foreign}, Words.{words}}, proofs.Cuts.{words_last}}
use Rattle.refutation.specs.{Steps.{IsStepIn}, Words.{spaces}}
use Rattle.refutation.specs.StepWords.{words_of_step, AreOfForm, of_split, of_cycle, of_path, of_absence, of_falsity, AreSpelled, ReadsNodes, ReadsWords}
use Rattle.refutation.specs.{Reading.{head_of, nodes_of, IsLineOf, ReadsStep}, declared.step_head.StepHead.{StepHead, TheVariants.{Split, Cycle, Path, Absent}}}
use Rattle.refutation.proofs.LineWords.{line_alone}
use Rattle.refutation.proofs.StepLines.{behind, first_text, initial, signed_lacks, no_sign, words_of_line, line_of_words, form_of_line, line_of_form, same_step, step_formed}

pub split_read : (names : Names) (text : List ℕ) (negated : Bool) (digits : List ℕ) (p : ℕ) → text ≡ sign_text negated ++ digits → IsDecimal digits p
    → ReadsWords names (codes "split" ∷ words text) [] (Ok (Split negated p))
split_read names text negated digits p is d =
    let are : words text ≡ (sign_text negated ++ digits) ∷ [] = ap words is ∙ words_last (sign_text negated ++ digits) (signed_lacks negated digits p d) in (
      split negated p,
      record { has_line = d.0; inside = tt; are = ap (λ ws. codes "split" ∷ ws) (are ∙ ap (λ w. (sign_text negated ++ w) ∷ []) d.1) },
      refl,
      refl,
    )

-- what is after the sign is all that can be a decimal
behind_sign : (text : List ℕ) (negated : Bool) (digits : List ℕ) → text ≡ sign_text negated ++ digits
    → (negated ≡ false → (rest : List ℕ) → text ≢ codes "~" ++ rest)
    → (m : Bool) (ds : List ℕ) (p : ℕ) → IsDecimal ds p → text ≡ sign_text m ++ ds → ds ≡ digits
behind_sign text true digits is plain true ds p d e = ap (λ xs. drop 1 xs) (sym e ∙ is)
behind_sign text true digits is plain false ds p d e = absurd (no_sign ds digits p d (sym e ∙ is))
behind_sign text false digits is plain true ds p d e = absurd (plain refl ds e)
behind_sign text false digits is plain false ds p d e = sym e ∙ is

pub split_none : (text : List ℕ) (negated : Bool) (digits : List ℕ) → text ≡ sign_text negated ++ digits
    → (negated ≡ false → (rest : List ℕ) → text ≢ codes "~" ++ rest)
    → ((p : ℕ) → IsDecimal digits p → ⊥) → AreOfForm (codes "split" ∷ words text) → ⊥
split_none text negated digits is plain none (of_split m ds p d e) =
    let same : ds ≡ digits = behind_sign text negated digits is plain m ds p d (line_alone text (sign_text m ++ ds) (ap behind e)) in
    none p (let P : List ℕ → Type 0 = λ xs. IsDecimal xs p in subst P same d)
split_none text negated digits is plain none (of_cycle a more all e) = let d = ap initial e in omega (arith, d)
split_none text negated digits is plain none (of_path a b more all e) = let d = ap initial e in omega (arith, d)
split_none text negated digits is plain none (of_absence a f e) = let d = ap initial e in omega (arith, d)
split_none text negated digits is plain none (of_falsity e) = let d = ap initial e in omega (arith, d)

pub some_words : (line : List ℕ) → words line ≡ [] → ⊥
some_words line e = let n = length-slice_split (λ c. c == 32) line in let m = ap length e in omega (arith, n, m)

-- a line is one word, or two at least
abbrev pub HasTwo : List (List ℕ) → Type 0
HasTwo ws = (w : List ℕ) × (v : List ℕ) × (more : List (List ℕ)) × (ws ≡ w ∷ v ∷ more)

two_of : (w : List ℕ) (ws vs : List (List ℕ)) → ws ≡ w ∷ vs → (vs ≡ [] → ⊥) → HasTwo ws
two_of w ws [] e some = absurd (some refl)
two_of w ws (v ∷ vs) e some = (w, v, vs, e)

pub two_at : (line w : List ℕ) (o : Option (Bor (List ℕ))) → words line ≡ w ∷ option_map_or (λ r. words r.now) o [] → is_some o ≡ true → HasTwo (words line)
two_at line w None e is = cc
two_at line w (Some r) e is = two_of w (words line) (words r.now) e (some_words r.now)

pub one_at : (line w : List ℕ) (o : Option (Bor (List ℕ))) → words line ≡ w ∷ option_map_or (λ r. words r.now) o [] → is_some o ≡ false → words line ≡ w ∷ []
one_at line w None e is = e
one_at line w (Some r) e is = cc

pub room_behind : (line w rest : List ℕ) (spare : ℕ) → words line ≡ w ∷ words rest → spaces line ≤ spare → length (words rest) ≤ spare
room_behind line w rest spare e room = let n = length-slice_split (λ c. c == 32) line in let m = ap length e in omega (arith, n, m, room)

all_moved : (ws vs : List (List ℕ)) → ws ≡ vs → All IsNodeForm vs → All IsNodeForm ws
all_moved ws vs e all = let P : List (List ℕ) → Type 0 = λ xs. All IsNodeForm xs in subst P (sym e) all

no_cycle : (ws : List (List ℕ)) → (All IsNodeForm ws → ⊥) → AreOfForm (codes "cycle" ∷ ws) → ⊥
no_cycle ws none (of_split m ds p d e) = let d = ap initial e in omega (arith, d)
no_cycle ws none (of_cycle a more all e) = none (all_moved ws (a ∷ more) (ap behind e) all)
no_cycle ws none (of_path a b more all e) = let d = ap initial e in omega (arith, d)
no_cycle ws none (of_absence a f e) = let d = ap initial e in omega (arith, d)
no_cycle ws none (of_falsity e) = let d = ap initial e in omega (arith, d)

no_path : (ws : List (List ℕ)) → (All IsNodeForm ws → ⊥) → AreOfForm (codes "path" ∷ ws) → ⊥
no_path ws none (of_split m ds p d e) = let d = ap initial e in omega (arith, d)
no_path ws none (of_cycle a more all e) = let d = ap initial e in omega (arith, d)
no_path ws none (of_path a b more all e) = none (all_moved ws (a ∷ b ∷ more) (ap behind e) all)
no_path ws none (of_absence a f e) = let d = ap initial e in omega (arith, d)
no_path ws none (of_falsity e) = let d = ap initial e in omega (arith, d)

no_absent : (ws : List (List ℕ)) → (All IsNodeForm ws → ⊥) → AreOfForm (codes "absent" ∷ ws) → ⊥
no_absent ws none (of_split m ds p d e) = let d = ap initial e in omega (arith, d)
no_absent ws none (of_cycle a more all e) = let d = ap initial e in omega (arith, d)
no_absent ws none (of_path a b more all e) = let d = ap initial e in omega (arith, d)
no_absent ws none (of_absence a f e) = none (all_moved ws (a ∷ []) (ap behind e) (All-cons IsNodeForm a [] f (All-nil IsNodeForm)))
no_absent ws none (of_falsity e) = let d = ap initial e in omega (arith, d)

pub absent_alone : (ws : List (List ℕ)) → HasTwo ws → AreOfForm (codes "absent" ∷ ws) → ⊥
absent_alone ws two (of_split m ds p d e) = let d = ap initial e in omega (arith, d)
absent_alone ws two (of_cycle a more all e) = let d = ap initial e in omega (arith, d)
absent_alone ws two (of_path a b more all e) = let d = ap initial e in omega (arith, d)
absent_alone ws (w, v, more, is) (of_absence a f e) = let n = ap length is in let m = ap length (ap behind e) in omega (arith, n, m)
absent_alone ws two (of_falsity e) = let d = ap initial e in omega (arith, d)

pub no_word : (word : List ℕ) (ws : List (List ℕ)) → (ws ≡ [] → ⊥) → (word ≡ codes "split" → ⊥) → (word ≡ codes "cycle" → ⊥) → (word ≡ codes "path" → ⊥)
    → (word ≡ codes "absent" → ⊥) → AreOfForm (word ∷ ws) → ⊥
no_word word ws some ns nc np na (of_split m ds p d e) = ns (ap first_text e)
no_word word ws some ns nc np na (of_cycle a more all e) = nc (ap first_text e)
no_word word ws some ns nc np na (of_path a b more all e) = np (ap first_text e)
no_word word ws some ns nc np na (of_absence a f e) = na (ap first_text e)
no_word word ws some ns nc np na (of_falsity e) = some (ap behind e)

-- no step is of these words
other_cycle : (names : Names) (ws : List (List ℕ)) → ((others : List Node) → AreSpelled names ws others → ⊥)
    → (s : PlainStep Node) → IsStepIn names s → codes "cycle" ∷ ws ≡ words_of_step names s → ⊥
other_cycle names ws none (split m p) inside e = let d = ap initial e in omega (arith, d)
other_cycle names ws none (close (cycle nodes)) inside e = none nodes (inside, ap behind e)
other_cycle names ws none (close (path nodes)) inside e = let d = ap initial e in omega (arith, d)
other_cycle names ws none (close (absent a)) inside e = let d = ap initial e in omega (arith, d)
other_cycle names ws none (close false_step) inside e = let d = ap initial e in omega (arith, d)

other_path : (names : Names) (ws : List (List ℕ)) → ((others : List Node) → AreSpelled names ws others → ⊥)
    → (s : PlainStep Node) → IsStepIn names s → codes "path" ∷ ws ≡ words_of_step names s → ⊥
other_path names ws none (split m p) inside e = let d = ap initial e in omega (arith, d)
other_path names ws none (close (cycle nodes)) inside e = let d = ap initial e in omega (arith, d)
other_path names ws none (close (path nodes)) inside e = none nodes (inside, ap behind e)
other_path names ws none (close (absent a)) inside e = let d = ap initial e in omega (arith, d)
other_path names ws none (close false_step) inside e = let d = ap initial e in omega (arith, d)

other_absent : (names : Names) (ws : List (List ℕ)) → ((others : List Node) → AreSpelled names ws others → ⊥)
    → (s : PlainStep Node) → IsStepIn names s → codes "absent" ∷ ws ≡ words_of_step names s → ⊥
other_absent names ws none (split m p) inside e = let d = ap initial e in omega (arith, d)
other_absent names ws none (close (cycle nodes)) inside e = let d = ap initial e in omega (arith, d)
other_absent names ws none (close (path nodes)) inside e = let d = ap initial e in omega (arith, d)
other_absent names ws none (close (absent a)) inside e = none (a ∷ []) (All-cons (IsNodeIn names) a [] inside (All-nil (IsNodeIn names)), ap behind e)
other_absent names ws none (close false_step) inside e = let d = ap initial e in omega (arith, d)

cycle_formed : (ws : List (List ℕ)) → (ws ≡ [] → ⊥) → All IsNodeForm ws → AreOfForm (codes "cycle" ∷ ws)
cycle_formed [] some all = absurd (some refl)
cycle_formed (a ∷ more) some all = of_cycle a more all refl

path_formed : (ws : List (List ℕ)) → HasTwo ws → All IsNodeForm ws → AreOfForm (codes "path" ∷ ws)
path_formed ws (w, v, more, is) all = of_path w v more (all_moved (w ∷ v ∷ more) ws (sym is) all) (ap (λ r. codes "path" ∷ r) is)

absent_formed : (ws : List (List ℕ)) (w : List ℕ) → ws ≡ w ∷ [] → All IsNodeForm ws → AreOfForm (codes "absent" ∷ ws)
absent_formed ws w is all = of_absence w (All-head IsNodeForm w [] (all_moved (w ∷ []) ws (sym is) all)) (ap (λ r. codes "absent" ∷ r) is)

pub cycle_fault : (names : Names) (ws : List (List ℕ)) (nodes new : List Node) (fault : LineFault) → (ws ≡ [] → ⊥) → ReadsNodes names ws nodes (Err fault)
    → ReadsWords names (codes "cycle" ∷ ws) new (Err fault)
cycle_fault names ws nodes new Malformed some h = no_cycle ws h
cycle_fault names ws nodes new Foreign some h = (cycle_formed ws some h.0, λ s w. other_cycle names ws h.1 s w.inside w.are)

pub path_fault : (names : Names) (ws : List (List ℕ)) (nodes new : List Node) (fault : LineFault) → HasTwo ws → ReadsNodes names ws nodes (Err fault)
    → ReadsWords names (codes "path" ∷ ws) new (Err fault)
path_fault names ws nodes new Malformed two h = no_path ws h
path_fault names ws nodes new Foreign two h = (path_formed ws two h.0, λ s w. other_path names ws h.1 s w.inside w.are)

pub absent_fault : (names : Names) (ws : List (List ℕ)) (w : List ℕ) (nodes new : List Node) (fault : LineFault) → ws ≡ w ∷ []
    → ReadsNodes names ws nodes (Err fault)
    → ReadsWords names (codes "absent" ∷ ws) new (Err fault)
absent_fault names ws w nodes new Malformed one h = no_absent ws h
absent_fault names ws w nodes new Foreign one h = (absent_formed ws w one h.0, λ s a. other_absent names ws h.1 s a.inside a.are)

pub cycle_read : (names : Names) (ws : List (List ℕ)) (nodes : List Node) → (ws ≡ [] → ⊥) → AreSpelled names ws nodes
    → ReadsWords names (codes "cycle" ∷ ws) nodes (Ok Cycle)
cycle_read names ws [] some h = absurd (some h.1)
cycle_read names ws (a ∷ more) some h =
    (close (cycle (a ∷ more)), record { has_line = tt; inside = h.0; are = ap (λ r. codes "cycle" ∷ r) h.1 }, refl, refl)

pub path_read : (names : Names) (ws : List (List ℕ)) (nodes : List Node) → HasTwo ws → AreSpelled names ws nodes
    → ReadsWords names (codes "path" ∷ ws) nodes (Ok Path)
path_read names ws [] (w, v, more, is) h = let n = ap length is in let m = ap length h.1 in absurd (omega (arith, n, m))
path_read names ws (a ∷ []) (w, v, more, is) h = let n = ap length is in let m = ap length h.1 in absurd (omega (arith, n, m))
path_read names ws (a ∷ b ∷ more) two h =
    (close (path (a ∷ b ∷ more)), record { has_line = tt; inside = h.0; are = ap (λ r. codes "path" ∷ r) h.1 }, refl, refl)

pub absent_read : (names : Names) (ws : List (List ℕ)) (w : List ℕ) (nodes : List Node) → ws ≡ w ∷ [] → AreSpelled names ws nodes
    → ReadsWords names (codes "absent" ∷ ws) nodes (Ok Absent)
absent_read names ws w [] one h = let n = ap length one in let m = ap length h.1 in absurd (omega (arith, n, m))
absent_read names ws w (a ∷ []) one h =
    (close (absent a), record { has_line = tt; inside = All-head (IsNodeIn names) a [] h.0; are = ap (λ r. codes "absent" ∷ r) h.1 }, refl, refl)
absent_read names ws w (a ∷ b ∷ more) one h = let n = ap length one in let m = ap length h.1 in absurd (omega (arith, n, m))

-- what reading the words of a line makes of the line
pub line_read : (names : Names) (line : List ℕ) (nodes : List Node) (result : Result StepHead LineFault) → ReadsWords names (words line) nodes result
    → is_err result ≡ false → ReadsStep names line nodes result
line_read names line nodes (Ok head) h is = (h.0, line_of_words names line h.0 h.1, h.2, h.3)
line_read names line nodes (Err fault) h is = cc

pub line_fault : (names : Names) → AreReadable names → (line : List ℕ) (nodes : List Node) (result : Result StepHead LineFault)
    → ReadsWords names (words line) nodes result
    → is_err result ≡ true → ReadsStep names line [] result
line_fault names readable line nodes (Ok head) h is = cc
line_fault names readable line nodes (Err Malformed) h is = (λ form. h (form_of_line line form), refl)
line_fault names readable line nodes (Err Foreign) h is = (line_of_form line h.0, λ s of. h.1 s (words_of_line names readable line s of), refl)

pub line_none : (names : Names) → AreReadable names → (line : List ℕ) (nodes : List Node) (result : Result StepHead LineFault)
    → ReadsWords names (words line) nodes result
    → is_err result ≡ true → (s : PlainStep Node) → IsLineOf names line s → ⊥
line_none names readable line nodes (Ok head) h is s of = cc
line_none names readable line nodes (Err Malformed) h is s of = h (step_formed names readable (words line) s (words_of_line names readable line s of))
line_none names readable line nodes (Err Foreign) h is s of = h.1 s (words_of_line names readable line s of)

pub line_again : (names : Names) → AreReadable names → (line : List ℕ) (nodes : List Node) (result : Result StepHead LineFault)
    → ReadsWords names (words line) nodes result
    → is_err result ≡ false → (s : PlainStep Node) → IsLineOf names line s → (result ≡ Ok (head_of s)) × (nodes ≡ nodes_of s)
line_again names readable line nodes (Ok head) (t, are, at_head, at_nodes) is s of =
    let same : t ≡ s = same_step names readable (words line) t s are (words_of_line names readable line s of) in
    (ap Ok (at_head ∙ ap head_of same), at_nodes ∙ ap nodes_of same)
line_again names readable line nodes (Err fault) h is s of = cc

pub on_err : {P : Type 0} (result : Result StepHead LineFault) → P → OnErr result P
on_err (Ok head) p = tt
on_err (Err fault) p = p

-- an error that `?` hands on as it is
pub handed_on : (P : Result StepHead LineFault → Type 0) (result : Result StepHead LineFault) (fault : LineFault) → IsErrAnd result (λ e. e ≡ fault)
    → P (Err fault) → P result
handed_on P (Ok head) fault is p = absurd is
handed_on P (Err other) fault is p = subst (λ e. P (Err e)) (sym is) p
