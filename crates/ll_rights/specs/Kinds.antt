-- The kinds of files, and the rights that making and removing one of a kind asks for.
-- Source: landlock(7), "Filesystem actions".
use Rattle.ll_rights.specs.declared.kind.Kind.{Kind}
use Rattle.ll_rights.specs.declared.kind.Kind.TheVariants.{Dir, Reg, Sym, Char, Block, Fifo, Sock}
use Rattle.ll_rights.specs.Rights.{FsRight, make_dir, make_reg, make_sym, make_char, make_block, make_fifo, make_sock, remove_dir, remove_file}

-- the right to make an object of a kind
abbrev pub make_right_of : Kind → FsRight
make_right_of Dir = make_dir
make_right_of Reg = make_reg
make_right_of Sym = make_sym
make_right_of Char = make_char
make_right_of Block = make_block
make_right_of Fifo = make_fifo
make_right_of Sock = make_sock

-- the right to remove an object of a kind
abbrev pub remove_right_of : Kind → FsRight
remove_right_of Dir = remove_dir
remove_right_of kind = remove_file
