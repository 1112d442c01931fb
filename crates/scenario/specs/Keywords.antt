-- The words with which a line begins, and those that follow `kernel`.
-- Here: keyword_of, kernel_word_of
use Rattle.std.specs.Prelude.{ℕ, List, [], ◌∷◌, Option, codes}
use Rattle.std.specs.Map.{lookup}
use Rattle.std.specs.Str.{bytes_eq}
use Rattle.scenario.specs.declared.keywords.Keyword.{Keyword}
use Rattle.scenario.specs.declared.keywords.Keyword.TheVariants as keyword
use Rattle.scenario.specs.declared.keywords.KernelWord.{KernelWord}
use Rattle.scenario.specs.declared.keywords.KernelWord.TheVariants as word

-- The spelling of each.
abbrev pub keywords : List (List ℕ × Keyword)
keywords =
    (codes "load", keyword.Load) ∷ (codes "restart", keyword.Restart) ∷ (codes "unload", keyword.Unload) ∷ (codes "call", keyword.Call)
    ∷ (codes "run", keyword.Run) ∷ (codes "finish", keyword.Finish) ∷ (codes "irq", keyword.Irq) ∷ (codes "tick", keyword.Tick)
    ∷ (codes "work", keyword.Work) ∷ (codes "answer", keyword.Answer) ∷ (codes "kernel", keyword.Kernel) ∷ (codes "show", keyword.Show) ∷ []

abbrev pub kernel_words : List (List ℕ × KernelWord)
kernel_words =
    (codes "line", word.Line) ∷ (codes "free_line", word.FreeLine) ∷ (codes "param", word.Param) ∷ (codes "clear_param", word.ClearParam)
    ∷ (codes "hold", word.Hold) ∷ (codes "drop_hold", word.DropHold) ∷ (codes "lock", word.Lock) ∷ (codes "unlock", word.Unlock) ∷ []

-- The keyword that is spelled so, if there is one.
abbrev pub keyword_of : List ℕ → Option Keyword
keyword_of bytes = lookup (bytes_eq bytes) keywords

abbrev pub kernel_word_of : List ℕ → Option KernelWord
kernel_word_of bytes = lookup (bytes_eq bytes) kernel_words
