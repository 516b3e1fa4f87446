-- `buffer_makes` adds on 64 bits.
use Rattle.std.proofs.Common.{sym, eq-eqb, ◌∙◌, rules}
use Rattle.chain.proofs.LinkTests.{no-buffer_makes, buffer_some}
use Rattle.chain.proofs.link.buffer_makes.Goals as goal

pub returns-else-buffer-ne-NO_BUFFER_32 : goal.returns-else-buffer-ne-NO_BUFFER_32
returns-else-buffer-ne-NO_BUFFER_32 c = let z = c.args in
    rw (eq-eqb z.buffer 4294967295 (search rules)) (sym (no-buffer_makes z.windows.now z.window z.amount z.buffer (search rules)))

pub returns-then-buffer-ne-NO_BUFFER_32 : goal.returns-then-buffer-ne-NO_BUFFER_32
returns-then-buffer-ne-NO_BUFFER_32 c =
    let z = c.args in
    c.makes.ensures ∙ rw c.at_window.ensures (sym (buffer_some z.windows.now z.window z.amount z.buffer (search rules)))
