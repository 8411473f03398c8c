-- The cells of a tuple as a writer of JSON writes them.
use Rattle.std.proofs.Common.{◌≡◌, ℕ, List, [], ◌∷◌, ◌++◌, ap, sym, ◌∙◌, append_assoc, map}
use Rattle.std.proofs.Common.{Result, Ok, Err, OnOk}
use Rattle.std.specs.declared.alloc.AllocError.{AllocError}
use Rattle.json.specs.Token.{Token, begin_array, begin_object, end_array, end_object, key}
use Rattle.json.specs.Print.{print}
use Rattle.json.specs.Tree.{items_tokens, json_tokens}
use Rattle.json.specs.Written.{Writes, Written}
use Rattle.serde_json.specs.View.{items_of}
use Rattle.serde_json.specs.Written.{compact_text, items_outline, outline}
use Rattle.serde_json.proofs.Texts.{print-outline}
use Rattle.pgtuple.specs.declared.cell.Cell.{Cell}
use Rattle.pgjson.specs.Cells.{cell_data, cells_data}

pub one_token : (r : Result (Unit {0}) AllocError) (old new : Written) (t : Token) → Writes r old new t
    → OnOk r ((new.before ≡ old.before) × (new.tokens ≡ old.tokens ++ t ∷ []))
one_token (Ok u) old new t writes = (writes.room.0, writes.ok)
one_token (Err e) old new t writes = tt

four : (ts : List Token) (a b c d : Token) → (((ts ++ a ∷ []) ++ b ∷ []) ++ c ∷ []) ++ d ∷ [] ≡ ts ++ (a ∷ b ∷ c ∷ d ∷ [])
four ts a b c d =
    append_assoc ((ts ++ a ∷ []) ++ b ∷ []) (c ∷ []) (d ∷ []) ∙ append_assoc (ts ++ a ∷ []) (b ∷ []) (c ∷ d ∷ [])
    ∙ append_assoc ts (a ∷ []) (b ∷ c ∷ d ∷ [])

-- an object of one member
pub one_member : (r : Result (Unit {0}) AllocError) (o₀ o₁ o₂ o₃ o₄ : Written) (name : List ℕ) (t : Token)
    → Writes {E = AllocError} (Ok tt) o₀ o₁ begin_object → Writes {E = AllocError} (Ok tt) o₁ o₂ (key name)
    → Writes {E = AllocError} (Ok tt) o₂ o₃ t → Writes r o₃ o₄ end_object
    → OnOk r ((o₄.before ≡ o₀.before) × (o₄.tokens ≡ o₀.tokens ++ (begin_object ∷ key name ∷ t ∷ end_object ∷ [])))
one_member (Ok u) o₀ o₁ o₂ o₃ o₄ name t w₁ w₂ w₃ w₄ = (
  w₄.room.0 ∙ w₃.room.0 ∙ w₂.room.0 ∙ w₁.room.0,
  w₄.ok ∙ ap (λ ts. ts ++ end_object ∷ []) (w₃.ok ∙ ap (λ ts. ts ++ t ∷ []) (w₂.ok ∙ ap (λ ts. ts ++ key name ∷ []) w₁.ok))
      ∙ four o₀.tokens begin_object (key name) t end_object,
)
one_member (Err e) o₀ o₁ o₂ o₃ o₄ name t w₁ w₂ w₃ w₄ = tt

-- what is written for these cells, and behind them
abbrev pub cells_tokens : List Cell → List Token
cells_tokens cells = items_tokens (items_outline (items_of (map cell_data cells)))

pub no_cell : (tokens none : List Token) (cells here : List Cell) → none ≡ [] → tokens ≡ none ++ begin_array ∷ [] → here ≡ cells
    → tokens ++ cells_tokens here ≡ json_tokens (outline (cells_data cells))
no_cell tokens none cells here empty began same =
    ap (λ ts. ts ++ cells_tokens here) (began ∙ ap (λ ts. ts ++ begin_array ∷ []) empty)
    ∙ ap (λ cs. begin_array ∷ cells_tokens cs) same

pub one_cell : (all before next : List Token) (cell : Cell) (here more : List Cell) → before ++ cells_tokens here ≡ all
    → here ≡ cell ∷ more → next ≡ before ++ json_tokens (outline (cell_data cell)) → next ++ cells_tokens more ≡ all
one_cell all before next cell here more so is adds =
    ap (λ ts. ts ++ cells_tokens more) adds ∙ append_assoc before (json_tokens (outline (cell_data cell))) (cells_tokens more)
    ∙ ap (λ cs. before ++ cells_tokens cs) (sym is) ∙ so

pub all_cells : (bytes before : List ℕ) (tokens ended : List Token) (cells here : List Cell)
    → tokens ++ cells_tokens here ≡ json_tokens (outline (cells_data cells)) → here ≡ [] → ended ≡ tokens ++ end_array ∷ []
    → before ≡ [] → bytes ≡ before ++ print ended → bytes ≡ compact_text (cells_data cells)
all_cells bytes before tokens ended cells here so none ends empty is =
    is ∙ ap (λ b. b ++ print ended) empty
    ∙ ap print (ends ∙ ap (λ cs. tokens ++ cells_tokens cs) (sym none) ∙ so) ∙ print-outline (cells_data cells)
