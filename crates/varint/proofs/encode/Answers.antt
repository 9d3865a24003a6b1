-- `varint::encode` meets its contract: one, two or three bytes. Assumes nothing.
use Rattle.varint.proofs.Writing
use Rattle.varint.proofs.encode.Goals as goal

pub returns-then-v-lt-GROUP : goal.returns-then-v-lt-GROUP
returns-then-v-lt-GROUP c = search Writing.write_one

pub returns-then-v-lt-TWO_GROUPS : goal.returns-then-v-lt-TWO_GROUPS
returns-then-v-lt-TWO_GROUPS c = search Writing.write_two

pub returns : goal.returns
returns c = search Writing.write_three
